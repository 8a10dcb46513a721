pub mod Format
pub mod Stands
pub mod Crash
pub mod Steps
pub mod Laws

pub mod Part
pub mod Spelled
pub mod Text

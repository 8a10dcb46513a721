pub mod Minimal
pub mod Transversals
pub mod Steps
pub mod Laws
pub mod Edges

pub mod Breaks
pub mod Changed
pub mod Holds
pub mod Splits
pub mod Builds
pub mod Laws
pub mod Edges

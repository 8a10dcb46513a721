pub mod Pairs
pub mod Coding
pub mod Meeting
pub mod Laws
pub mod Edges

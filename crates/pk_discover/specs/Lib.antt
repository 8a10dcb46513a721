pub mod Keys
pub mod Limits
pub mod Laws
pub mod Edges

pub mod Words
pub mod Status
pub mod Told
pub mod Run
pub mod Laws
pub mod Example
pub mod Edges

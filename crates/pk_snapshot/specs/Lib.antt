pub mod Begun
pub mod Edges
pub mod Laws
pub mod Snapshots
pub mod Walks

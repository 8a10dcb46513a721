pub mod Entries
pub mod Family
pub mod Edges
pub mod Laws

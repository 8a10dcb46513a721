pub mod Maps
pub mod Batches
pub mod Outside
pub mod MemoryRows
pub mod Laws
pub mod Edges

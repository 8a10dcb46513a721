pub mod CommitLemmas
pub mod EdgeLemmas
pub mod MapLemmas
pub mod NextLemmas
pub mod PlaceOrder
pub mod RunLemmas

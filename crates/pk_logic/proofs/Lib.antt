pub mod Filling
pub mod KindLemmas
pub mod Layers
pub mod Members
pub mod TableLemmas
pub mod TruthLemmas

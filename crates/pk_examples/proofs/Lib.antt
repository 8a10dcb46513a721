pub mod EntryLemmas
pub mod AdmitLemmas
pub mod RefuteLemmas
pub mod WithoutLemmas
pub mod EdgeLemmas
pub mod CaseLemmas
pub mod LargestLemmas
pub mod HoldLemmas

pub mod HistoryLemmas
pub mod KeyOrder
pub mod NextLemmas
pub mod NoteLemmas
pub mod SessionLemmas
pub mod StoreLemmas

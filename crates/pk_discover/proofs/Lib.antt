pub mod ListLemmas
pub mod SetLemmas
pub mod MinimalLemmas
pub mod PairLemmas
pub mod CompletionLemmas
pub mod TransversalLemmas

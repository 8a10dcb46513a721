pub mod EntryLemmas
pub mod PairLemmas
pub mod RowLemmas
pub mod TableLemmas
pub mod WalkLemmas

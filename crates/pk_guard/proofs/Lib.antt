pub mod ChangedLemmas
pub mod FirstLemmas
pub mod IdLemmas
pub mod JudgeLemmas
pub mod KeyLemmas
pub mod LeastLemmas
pub mod WalkLemmas

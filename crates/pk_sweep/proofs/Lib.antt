pub mod ListLemmas
pub mod SetLemmas
pub mod RankLemmas
pub mod CodeLemmas
pub mod PairLemmas
pub mod MetLemmas
pub mod SweepLemmas

pub mod SymbolLemmas
pub mod TextLemmas
pub mod LexemeLemmas
pub mod PieceLemmas
pub mod LexedLemmas
pub mod QuoteLemmas
pub mod FillLemmas
pub mod Spelling

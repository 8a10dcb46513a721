pub mod ColumnLemmas
pub mod StepLemmas
pub mod RowLemmas
pub mod RuleLemmas
pub mod ShapeLemmas

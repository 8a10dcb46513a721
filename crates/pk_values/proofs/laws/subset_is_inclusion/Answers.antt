use Rattle.pk_values.proofs.ColumnLemmas.{subset_members, subset_from_members}
use Rattle.pk_values.proofs.laws.subset_is_inclusion.Goals as goal

pub returns : goal.returns
returns c = λ a b a_set. (λ inside k holds. subset_members a b k a_set inside holds, subset_from_members a b)

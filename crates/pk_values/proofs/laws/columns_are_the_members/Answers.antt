use Rattle.pk_values.proofs.ColumnLemmas.{listed_columns, columns_ascend}
use Rattle.pk_values.proofs.laws.columns_are_the_members.Goals as goal

pub returns : goal.returns
returns c = λ set bounded. (λ k. listed_columns set k bounded, columns_ascend set)

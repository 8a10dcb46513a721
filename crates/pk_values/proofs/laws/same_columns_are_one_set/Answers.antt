use Rattle.pk_values.proofs.ColumnLemmas.{set_from_columns}
use Rattle.pk_values.proofs.laws.same_columns_are_one_set.Goals as goal

pub returns : goal.returns
returns c = set_from_columns

use Rattle.std.proofs.Common.{refl}
use Rattle.pk_values.specs.ColumnSet.{columns}
use Rattle.pk_values.proofs.column_set.ColSet.empty.Goals as goal

pub returns-clause-none : goal.returns-clause-none
unfolding columns
returns-clause-none c = refl

use Rattle.std.proofs.Common.{sym}
use Rattle.pk_values.specs.ColumnSet.{columns}
use Rattle.pk_values.proofs.BitLemmas.{length_columns}
use Rattle.pk_values.proofs.column_set.ColSet.len.Goals as goal

pub returns-clause-columns : goal.returns-clause-columns
unfolding columns
returns-clause-columns c = rw (sym c.self.view_is) (sym (length_columns c.self.inside.bits c.self.invariant))

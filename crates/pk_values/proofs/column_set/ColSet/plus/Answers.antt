use Rattle.std.proofs.Common.{sym}
use Rattle.pk_values.proofs.BitLemmas.{has_or}
use Rattle.pk_values.proofs.column_set.ColSet.plus.Goals as goal

pub returns-clause-members : goal.returns-clause-members
returns-clause-members c = λ k. rw (sym c.self.view_is, sym c.other.view_is) (has_or c.self.inside.bits c.other.inside.bits k)

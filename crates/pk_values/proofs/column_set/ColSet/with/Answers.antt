use Rattle.std.proofs.Common.{sym}
use Rattle.pk_values.proofs.BitLemmas.{has_with}
use Rattle.pk_values.proofs.column_set.ColSet.with.Goals as goal

pub returns-clause-members : goal.returns-clause-members
returns-clause-members c = λ k. rw (sym c.self.view_is) (has_with c.self.inside.bits c.args.c k c.requires)

use Rattle.std.proofs.Common.{sym}
use Rattle.pk_values.proofs.BitLemmas.{has_without}
use Rattle.pk_values.proofs.column_set.ColSet.without.Goals as goal

pub returns-clause-members : goal.returns-clause-members
returns-clause-members c =
    λ k. rw (sym c.self.view_is) (has_without c.self.inside.bits c.args.c k c.self.invariant c.requires)

use Rattle.std.proofs.Common.{length}
use Rattle.pk_exec.specs.Rows.{rows_above}
use Rattle.pk_exec.proofs.Walks.{Drafting}
use Rattle.pk_exec.proofs.draft.base_draft.Given as goal

abbrev pub invariant-loop-draft : goal.invariant-loop-draft
invariant-loop-draft g l = Drafting g.V.View l.change l.edited l.fn.view l.view l.at l.left l.draft

abbrev pub decreases-loop-draft : goal.decreases-loop-draft
decreases-loop-draft g l = length (rows_above l.at (g.V.View.rows l.view))

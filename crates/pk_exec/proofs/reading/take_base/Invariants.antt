use Rattle.std.proofs.Common.{length}
use Rattle.pk_exec.specs.Rows.{rows_above}
use Rattle.pk_exec.proofs.TakeLemmas.{Taking}
use Rattle.pk_exec.proofs.reading.take_base.Given as goal

abbrev pub invariant-loop-id : goal.invariant-loop-id
invariant-loop-id g l = Taking g.V.View l.cond l.edited l.fn.rows.items l.fn.view l.view l.at l.left l.rows.items

abbrev pub decreases-loop-id : goal.decreases-loop-id
decreases-loop-id g l = length (rows_above l.at (g.V.View.rows l.view))

use Rattle.std.proofs.Common.{length}
use Rattle.pk_exec.specs.Rows.{rows_above}
use Rattle.pk_exec.proofs.TakeLemmas.{Counting}
use Rattle.pk_exec.proofs.reading.count_base.Given as goal

abbrev pub invariant-loop-id : goal.invariant-loop-id
invariant-loop-id g l = Counting g.V.View l.cond l.edited l.fn.count l.fn.view l.view l.at l.left l.count

abbrev pub decreases-loop-id : goal.decreases-loop-id
decreases-loop-id g l = length (rows_above l.at (g.V.View.rows l.view))

use Rattle.std.proofs.Common.{◌≡◌, drop}
use Rattle.pk_exec.specs.Selecting.{row_cmp}
use Rattle.pk_exec.proofs.ordering.row_cmp.Given as goal

-- no column so far tells the rows apart
abbrev pub invariant-loop-by : goal.invariant-loop-by
invariant-loop-by l = row_cmp l.order l.a l.b ≡ row_cmp (drop l.by-index l.order) l.a l.b

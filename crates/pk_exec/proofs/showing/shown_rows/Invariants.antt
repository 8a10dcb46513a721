use Rattle.std.proofs.Common.{◌≡◌, map, take}
use Rattle.pk_exec.specs.Selecting.{values_at}
use Rattle.pk_exec.proofs.showing.shown_rows.Given as goal

abbrev pub invariant-loop-row : goal.invariant-loop-row
invariant-loop-row l = l.all.items ≡ map (values_at l.shown) (take l.row-index l.rows)

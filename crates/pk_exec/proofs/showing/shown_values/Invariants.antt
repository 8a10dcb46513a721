use Rattle.std.proofs.Common.{◌≡◌, take}
use Rattle.pk_exec.specs.Selecting.{values_at}
use Rattle.pk_exec.proofs.showing.shown_values.Given as goal

abbrev pub invariant-loop-column : goal.invariant-loop-column
invariant-loop-column l = l.values.items ≡ values_at (take l.column-index l.shown) l.row

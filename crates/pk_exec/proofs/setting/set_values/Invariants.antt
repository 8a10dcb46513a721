use Rattle.std.proofs.Common.{◌≡◌, drop, length}
use Rattle.pk_bind.specs.Fitting.{with_sets}
use Rattle.pk_exec.proofs.setting.set_values.Given as goal

-- the values still to come make of the row now what all make of it, and the row keeps its width
abbrev pub invariant-loop-set : goal.invariant-loop-set
invariant-loop-set l =
    (with_sets (drop l.set-index l.sets) l.row ≡ with_sets l.fn.sets l.fn.row) × (length l.row ≡ length l.fn.row)

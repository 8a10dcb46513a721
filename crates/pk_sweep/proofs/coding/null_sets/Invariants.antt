use Rattle.std.proofs.Common.{◌≡◌, map, take}
use Rattle.pk_sweep.specs.Coding.{null_set}
use Rattle.pk_sweep.proofs.coding.null_sets.Given as goal

-- the sets so far are those of the rows so far
abbrev pub invariant-loop-row : goal.invariant-loop-row
invariant-loop-row l = l.nulls.items ≡ map (null_set l.columns) (take l.row-index l.rows)

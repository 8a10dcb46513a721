use Rattle.std.proofs.Common.{◌≡◌, map, take}
use Rattle.pk_values.specs.Values.{value_at}
use Rattle.pk_sweep.proofs.ranks.ordered_values.Given as goal

-- the values so far are those of the rows so far
abbrev pub invariant-loop-row : goal.invariant-loop-row
invariant-loop-row l = l.values.items ≡ map (λ row. value_at row l.c) (take l.row-index l.rows)

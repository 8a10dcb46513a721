use Rattle.std.proofs.Common.{take}
use Rattle.std.specs.List.{AllZip}
use Rattle.pk_values.specs.Values.{value_at}
use Rattle.pk_sweep.specs.Coding.{IsRank}
use Rattle.pk_sweep.proofs.ranks.codes.Given as goal

-- the numbers so far are ranks of the values so far
abbrev pub invariant-loop-row : goal.invariant-loop-row
invariant-loop-row l = AllZip (λ row code. IsRank l.ordered.items (value_at row l.c) code) (take l.row-index l.rows) l.codes.items

use Rattle.std.proofs.Common.{◌≡◌, drop}
use Rattle.std.specs.List.{find}
use Rattle.pk_guard.specs.Breaks.{breaks}
use Rattle.pk_guard.proofs.pairs.first_put.Given as goal

-- the rows that are left decide
abbrev pub invariant-loop-row : goal.invariant-loop-row
invariant-loop-row l = find (breaks l.key l.low) (drop l.row-index l.put) ≡ find (breaks l.key l.low) l.put

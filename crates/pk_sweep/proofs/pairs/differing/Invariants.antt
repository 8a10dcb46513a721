use Rattle.std.proofs.Common.{◌≡◌, bit_or, drop}
use Rattle.pk_sweep.specs.Coding.{differing}
use Rattle.pk_sweep.proofs.pairs.differing.Given as goal

-- the set so far, with that of the columns left, is that of all columns
abbrev pub invariant-loop-column : goal.invariant-loop-column
invariant-loop-column l = bit_or l.set (differing (drop l.column-index l.columns) l.i l.j) ≡ differing l.columns l.i l.j

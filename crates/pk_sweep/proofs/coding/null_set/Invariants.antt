use Rattle.std.proofs.Common.{◌≡◌, bit_or, drop}
use Rattle.pk_sweep.specs.Coding.{null_set}
use Rattle.pk_sweep.proofs.coding.null_set.Given as goal

-- the set so far, with that of the columns left, is that of all columns
abbrev pub invariant-loop-c : goal.invariant-loop-c
invariant-loop-c l = bit_or l.set (null_set (drop l.c-index l.columns) l.row) ≡ null_set l.columns l.row

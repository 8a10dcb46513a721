use Rattle.std.proofs.Common.{◌≡◌, ◌++◌, length}
use Rattle.pk_values.specs.ColumnSet.{columns}
use Rattle.pk_sweep.proofs.sweeping.listed.Given as goal

-- the columns so far and those that are left are the columns of the set
abbrev pub invariant-loop-c : goal.invariant-loop-c
invariant-loop-c l = l.listed.items ++ columns l.rest ≡ columns l.fn.set

abbrev pub decreases-loop-c : goal.decreases-loop-c
decreases-loop-c l = length (columns l.rest)

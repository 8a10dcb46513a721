use Rattle.std.proofs.Common.{◌≡◌, ◌++◌, take}
use Rattle.pk_sweep.proofs.ordering.add_sets.Given as goal

-- the sets so far are the numbers so far
abbrev pub invariant-loop-number : goal.invariant-loop-number
invariant-loop-number l = l.sets.items ≡ l.fn.sets.items ++ take l.number-index l.numbers

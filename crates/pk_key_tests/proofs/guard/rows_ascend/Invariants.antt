use Rattle.std.proofs.Common.{ℕ, ◌+◌, ◌<◌, get_or}
use Rattle.pk_values.specs.declared.placed.Placed.{Placed}
use Rattle.pk_key_tests.proofs.guard.rows_ascend.Given as goal

-- each id so far is below the next
abbrev pub invariant-loop-k : goal.invariant-loop-k
invariant-loop-k l = (i : ℕ) (d : Placed) → i + 1 < l.k → (get_or l.rows i d).id < (get_or l.rows (i + 1) d).id

use Rattle.std.proofs.Common.{ℕ, ◌+◌, ◌<◌, slice_index}
use Rattle.pk_key_tests.proofs.guard.ids_ascend.Given as goal

-- each id so far is below the next
abbrev pub invariant-loop-k : goal.invariant-loop-k
invariant-loop-k l = (i : ℕ) → i + 1 < l.k → slice_index l.ids i < slice_index l.ids (i + 1)

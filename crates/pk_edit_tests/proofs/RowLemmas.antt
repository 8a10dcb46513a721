-- Rows in the order of their ids.
use Rattle.std.proofs.Common.{ℕ, [], ◌∷◌}
use Rattle.std.specs.Ordering.{nat_cmp}
use Rattle.std.specs.List.Sorted.{IsStrictlySortedBy}

-- one id ascends
pub one_ascends : (id : ℕ) → IsStrictlySortedBy nat_cmp (id ∷ [])
unfolding IsStrictlySortedBy
one_ascends id = (tt, tt)

use Rattle.std.specs.Prelude.{ℕ, ◌<◌, ◌^◌, Bool, ◌==◌, List, length}
use Rattle.std.specs.List.{filter, list_all, range_with_len}
use Rattle.std.specs.Int.{bit_at}
use Rattle.std.specs.Ordering.{nat_cmp, on, then_cmp}
use Rattle.std.specs.Cmp.Lexicographic.{slice_cmp}
use Rattle.std.specs.declared.cmp.Ordering.{Ordering}

-- A set of columns below 32 is seen as the number with the bit c for each column c of the set.
abbrev pub IsColumnSet : ℕ → Type 0
IsColumnSet set = set < 2 ^ 32

-- column c is in the set
abbrev pub has_column : ℕ → ℕ → Bool
has_column set c = bit_at set c == 1

-- the columns of the set, ascending
unfoldable pub columns : ℕ → List ℕ
columns set = filter (has_column set) (range_with_len 0 32)

-- each column of the first set is in the second
unfoldable pub is_subset : ℕ → ℕ → Bool
is_subset set other = list_all (has_column other) (columns set)

-- By size, then by the ascending lists of columns. Two sets have one list only where they are one set, so that the numbers
-- decide nothing between sets.
abbrev pub column_set_cmp : ℕ → ℕ → Ordering
column_set_cmp = then_cmp (on (λ set. length (columns set)) nat_cmp) (then_cmp (on columns (slice_cmp nat_cmp)) nat_cmp)

-- What the sets of pairs are, in words that don't retrace how they are listed.
use Rattle.std.specs.Prelude.{◌≡◌, ℕ, ◌<◌, List, Contains, Some, slice_get}
use Rattle.pk_values.specs.declared.value.Value.{Value}
use Rattle.pk_values.specs.ColumnSet.{IsColumnSet, columns}
use Rattle.pk_similar.specs.Similarity.{apart, not_same}
use Rattle.pk_sweep.specs.Pairs.{set_of, pair_sets}

-- x is the set that `differ` tells of the rows at two places
abbrev pub IsPairSet : (List Value → List Value → List ℕ) → List (List Value) → ℕ → Type 0
IsPairSet differ rows x =
    (i j : ℕ) × (a b : List Value) × (i < j) × (slice_get rows i ≡ Some a) × (slice_get rows j ≡ Some b) × (x ≡ set_of (differ a b))

-- The sets of pairs are those of any two places.
abbrev pub PairsAreOfPlaces : Type 0
PairsAreOfPlaces =
    (differ : List Value → List Value → List ℕ) (rows : List (List Value)) (x : ℕ)
    → (Contains (pair_sets differ rows) x → IsPairSet differ rows x) × (IsPairSet differ rows x → Contains (pair_sets differ rows) x)

-- A set of the columns of a set in which two rows differ has just these columns.
pub record SetsHaveTheirColumns : Type 0 where
  pub apart : (x : ℕ) (a b : List Value) → IsColumnSet (set_of (apart (columns x) a b)) × (columns (set_of (apart (columns x) a b)) ≡ apart (columns x) a b)
  pub not_same :
      (x : ℕ) (a b : List Value)
      → IsColumnSet (set_of (not_same (columns x) a b)) × (columns (set_of (not_same (columns x) a b)) ≡ not_same (columns x) a b)

-- The sets of columns in which rows at two distinct places differ.
use Rattle.std.specs.Prelude.{ℕ, ◌^◌, List, [], ◌∷◌, ◌++◌, length, map, All, Contains, IsTrue}
use Rattle.std.specs.Int.Bits.{bit_or}
use Rattle.std.specs.List.Sorted.{IsStrictlySortedBy}
use Rattle.pk_values.specs.declared.value.Value.{Value}
use Rattle.pk_values.specs.ColumnSet.{column_set_cmp}
use Rattle.pk_similar.specs.Similarity.{are_below, apart, not_same}

-- the set of these columns
unfoldable pub set_of : List ℕ → ℕ
set_of [] = 0
set_of (c ∷ cs) = bit_or (2 ^ c) (set_of cs)

-- the sets of the columns that `differ` tells of the row and each of the others
abbrev pub sets_beside : (List Value → List Value → List ℕ) → List Value → List (List Value) → List ℕ
sets_beside differ row others = map (λ other. set_of (differ row other)) others

-- the same for every two places: for each row and those behind it
unfoldable pub pair_sets : (List Value → List Value → List ℕ) → List (List Value) → List ℕ
pair_sets differ [] = []
pair_sets differ (row ∷ rows) = sets_beside differ row rows ++ pair_sets differ rows

-- of these columns, those in which neither entry is null and they differ
abbrev pub apart_sets : List ℕ → List (List Value) → List ℕ
apart_sets cs rows = pair_sets (apart cs) rows

-- of these columns, those in which the entries aren't known to be the same
abbrev pub not_same_sets : List ℕ → List (List Value) → List ℕ
not_same_sets cs rows = pair_sets (not_same cs) rows

-- the sets in their order, each once
pub record InOrder (sets ordered : List ℕ) : Type 0 where
  pub ascend : IsStrictlySortedBy column_set_cmp ordered
  pub only : (x : ℕ) → Contains ordered x → Contains sets x
  pub every : (x : ℕ) → Contains sets x → Contains ordered x

-- each row has all of the columns
abbrev pub AreWide : List ℕ → List (List Value) → Type 0
AreWide cs rows = All (λ row. IsTrue (are_below (length row) cs)) rows

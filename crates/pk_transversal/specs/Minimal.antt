-- The minimal sets of columns among some.
use Rattle.std.specs.Prelude.{◌≡◌, ℕ, Bool, not, ◌&&◌, ◌==◌, List, [], fold, filter, Contains, IsTrue}
use Rattle.std.specs.List.{list_any}
use Rattle.std.specs.List.Sorted.{IsStrictlySortedBy}
use Rattle.std.specs.BTreeSet.{insert_key}
use Rattle.pk_values.specs.ColumnSet.{is_subset, column_set_cmp}

-- x has P, and no other set that has P lies inside it
pub record IsMinimal (P : ℕ → Type 0) (x : ℕ) : Type 0 where
  pub holds : P x
  pub least : (y : ℕ) → P y → IsTrue (is_subset y x) → y ≡ x

-- the sets that have P, and no others, each once and in the order of sets
pub record Lists (P : ℕ → Type 0) (sets : List ℕ) : Type 0 where
  pub ascend : IsStrictlySortedBy column_set_cmp sets
  pub only : (x : ℕ) → Contains sets x → P x
  pub every : (x : ℕ) → P x → Contains sets x

-- ---- the same, computed

-- one of the sets lies inside this one, and isn't the same
abbrev pub has_part : List ℕ → ℕ → Bool
has_part sets x = list_any (λ y. is_subset y x && not (y == x)) sets

-- the sets in their order, each once
abbrev pub in_order : List ℕ → List ℕ
in_order sets = fold (insert_key column_set_cmp) [] sets

-- those of the sets inside which no other of them lies, in their order, each once
unfoldable pub minimal_of : List ℕ → List ℕ
minimal_of sets = in_order (filter (λ x. not (has_part sets x)) sets)

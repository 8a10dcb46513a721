-- Rows with ids, in the order of their ids.
use Rattle.std.specs.Prelude.{ℕ, ◌≤◌, Bool, ◌==◌, List, [], ◌∷◌, map, Option, Some, None, nat_lt, if◌then◌else◌}
use Rattle.std.proofs.Props.{props}
use Rattle.std.proofs.lemmas.Map.Keys.{IsStrictlySortedBy-prop}
use Rattle.std.specs.List.{find, list_any, AllByRecursion, AllByRecursion-prop}
use Rattle.std.specs.List.Sorted.{IsStrictlySortedBy}
use Rattle.std.specs.Ordering.{nat_cmp}
use Rattle.std.specs.Option.{option_map}
use Rattle.pk_values.specs.declared.placed.Placed.{Placed}
use Rattle.pk_values.specs.declared.value.Value.{Value}

abbrev pub ids_of : List Placed → List ℕ
ids_of rows = map (λ (p : Placed). p.id) rows

-- the ids ascend, and none is below this number
abbrev pub AscendFrom : ℕ → List Placed → Type 0
AscendFrom least rows = IsStrictlySortedBy nat_cmp (ids_of rows) × AllByRecursion (λ (p : Placed). least ≤ p.id) rows

-- that they ascend is a fact, which has no two forms
pub AscendFrom-prop : (least : ℕ) (rows : List Placed) → IsProp (AscendFrom least rows)
AscendFrom-prop least rows =
    let sorted = IsStrictlySortedBy-prop nat_cmp (ids_of rows) in
    let above = AllByRecursion-prop (λ (p : Placed). least ≤ p.id) (λ p. hlevel props) rows in
    hlevel (sorted, above)

-- the rows behind the id
unfoldable pub rows_above : ℕ → List Placed → List Placed
rows_above id [] = []
rows_above id (p ∷ ps) = if nat_lt id p.id then p ∷ ps else rows_above id ps

abbrev pub first_id : List Placed → Option ℕ
first_id [] = None
first_id (p ∷ ps) = Some p.id

-- the least id above this one
abbrev pub next_id : ℕ → List Placed → Option ℕ
next_id id rows = first_id (rows_above id rows)

abbrev pub is_of : ℕ → Placed → Bool
is_of id p = p.id == id

-- one of the rows has the id
abbrev pub has_id : List Placed → ℕ → Bool
has_id rows id = list_any (is_of id) rows

-- the row of the id
abbrev pub row_of : List Placed → ℕ → Option (List Value)
row_of rows id = option_map (λ (p : Placed). p.row) (find (is_of id) rows)

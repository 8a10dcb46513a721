-- The rows that an index holds, and what is asked of them. Lists of values are those of a row on the columns of a key, in
-- the order of the columns.
use Rattle.std.specs.Prelude.{◌≡◌, ℕ, ◌<◌, ◌==◌, Bool, true, false, not, ◌&&◌, ◌||◌, List, [], ◌∷◌, map, Option, Some, None, if◌then◌else◌}
use Rattle.std.specs.List.{list_all, list_any}
use Rattle.std.specs.FinMap.{FinMap}
use Rattle.std.specs.Ordering.{nat_cmp}
use Rattle.pk_values.specs.declared.value.Value.{Value}
use Rattle.pk_values.specs.ColumnSet.{has_column}
use Rattle.pk_values.specs.Values.{is_null, same_value, value_at}
use Rattle.pk_similar.specs.Similarity.{weak_entries, strong_entries}

-- the values of a row on these columns
abbrev pub values_on : List ℕ → List Value → List Value
values_on cs row = map (value_at row) cs

-- each held id with the values of its row
abbrev pub Rows : Type 0
Rows = FinMap nat_cmp (List Value)

-- each held id with the values of its row or, where one of them is null, with None, the mark of that
abbrev pub Marks : Type 0
Marks = FinMap nat_cmp (Option (List Value))

-- no value is null
abbrev pub are_known : List Value → Bool
are_known vs = list_all (λ v. not (is_null v)) vs

-- the values, or the mark that one is null
abbrev pub mark_of : List Value → Option (List Value)
mark_of vs = if are_known vs then Some vs else None

-- null where the flag is true, and known where it is false
abbrev pub is_null_as : Bool → Value → Bool
is_null_as true v = is_null v
is_null_as false v = not (is_null v)

-- the values are null on just those of the columns that the pattern has
abbrev pub has_pattern : ℕ → List ℕ → List Value → Bool
has_pattern pattern [] vs = true
has_pattern pattern (c ∷ cs) [] = false
has_pattern pattern (c ∷ cs) (v ∷ vs) = is_null_as (has_column pattern c) v && has_pattern pattern cs vs

-- a known value stands in each column that isn't nullable
abbrev pub is_known_outside : ℕ → List ℕ → List Value → Bool
is_known_outside nullable cs row = list_all (λ c. has_column nullable c || not (is_null (value_at row c))) cs

-- in each column the values are the same, or one is null
abbrev pub all_weak : List Value → List Value → Bool
all_weak [] ws = true
all_weak (v ∷ vs) [] = true
all_weak (v ∷ vs) (w ∷ ws) = weak_entries v w && all_weak vs ws

-- in each column the values are the same, and neither is null
abbrev pub all_strong : List Value → List Value → Bool
all_strong [] ws = true
all_strong (v ∷ vs) [] = true
all_strong (v ∷ vs) (w ∷ ws) = strong_entries v w && all_strong vs ws

-- the same values
abbrev pub same_values : List Value → List Value → Bool
same_values [] [] = true
same_values [] (w ∷ ws) = false
same_values (v ∷ vs) [] = false
same_values (v ∷ vs) (w ∷ ws) = same_value v w && same_values vs ws

-- the same mark
abbrev pub same_mark : Option (List Value) → Option (List Value) → Bool
same_mark None None = true
same_mark None (Some ws) = false
same_mark (Some vs) None = false
same_mark (Some vs) (Some ws) = same_values vs ws

-- something is held, and it passes the test
abbrev pub passes : {X : Type 0} → (X → Bool) → Option X → Bool
passes test None = false
passes test (Some x) = test x

-- The values have the null pattern, and are weakly similar to those of the probe.
abbrev pub is_weak_with : ℕ → List ℕ → List Value → List Value → Bool
is_weak_with pattern cs probe vs = has_pattern pattern cs vs && all_weak vs (values_on cs probe)

-- The values are strongly similar to those of the probe. The mark that one is null is similar to none.
abbrev pub is_strong_with : List ℕ → List Value → Option (List Value) → Bool
is_strong_with cs probe None = false
is_strong_with cs probe (Some vs) = all_strong vs (values_on cs probe)

-- the id is one of these
abbrev pub is_listed : List ℕ → ℕ → Bool
is_listed ids id = list_any (λ i. i == id) ids

-- The least id that passes the test and isn't outside; None where there is none.
abbrev pub IsLeast : (ℕ → Bool) → List ℕ → Option ℕ → Type 0
IsLeast test outside None = (j : ℕ) → test j ≡ true → is_listed outside j ≡ true
IsLeast test outside (Some id) =
    (test id ≡ true) × (is_listed outside id ≡ false) × ((j : ℕ) → j < id → test j ≡ true → is_listed outside j ≡ true)

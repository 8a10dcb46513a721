-- What a reader of SQL expects of the truth of conditions.
use Rattle.std.specs.Prelude.{◌≡◌, ◌≢◌, ℕ, Bool, true, false, ◌||◌, List, [], ◌∷◌, map, pos}
use Rattle.std.specs.List.{list_all, list_any}
use Rattle.std.specs.declared.cmp.Ordering.TheVariants.{Less, Equal, Greater}
use Rattle.pk_values.specs.declared.value.Value.{Value}
use Rattle.pk_values.specs.declared.value.Value.TheVariants.{Null, Integer}
use Rattle.pk_values.specs.Values.{is_null, value_at, value_cmp}
use Rattle.pk_logic.specs.declared.condition.Op.{Op}
use Rattle.pk_logic.specs.declared.condition.Op.TheVariants as ops
use Rattle.pk_logic.specs.declared.condition.Side.{Side}
use Rattle.pk_logic.specs.declared.condition.Side.TheVariants.{Known}
use Rattle.pk_logic.specs.declared.condition.Cond.{Cond}
use Rattle.pk_logic.specs.declared.condition.Cond.TheVariants.{Compare, IsNull, Not, All, Any}
use Rattle.pk_logic.specs.declared.condition.Cond.TheOpen as layers
use Rattle.pk_logic.specs.declared.condition.Cond.TheOpen.{Cond-F}
use Rattle.pk_logic.specs.declared.condition.Cond.TheFolds.{fold-Cond}
use Rattle.pk_logic.specs.declared.truth.Truth.{Truth}
use Rattle.pk_logic.specs.declared.truth.Truth.TheVariants.{False, Unknown, True}
use Rattle.pk_logic.specs.Conditions.{side_value, truth, all_hold}

abbrev pub is_true : Truth → Bool
is_true False = false
is_true Unknown = false
is_true True = true

abbrev pub is_false : Truth → Bool
is_false False = true
is_false Unknown = false
is_false True = false

-- NOT exchanges true and false and keeps unknown
abbrev pub NotExchanges : Type 0
NotExchanges = (row : List Value) (cond : Cond)
    → (truth row cond ≡ True → truth row (Not cond) ≡ False)
    × (truth row cond ≡ Unknown → truth row (Not cond) ≡ Unknown)
    × (truth row cond ≡ False → truth row (Not cond) ≡ True)

-- IS NULL is true of null and false of all else, IS NOT NULL the other way, and neither is ever unknown
abbrev pub NullTestsAreKnown : Type 0
NullTestsAreKnown = (row : List Value) (column : ℕ)
    → (is_null (value_at row column) ≡ true → (truth row (IsNull column false) ≡ True) × (truth row (IsNull column true) ≡ False))
    × (is_null (value_at row column) ≡ false → (truth row (IsNull column false) ≡ False) × (truth row (IsNull column true) ≡ True))
    × ((negated : Bool) → truth row (IsNull column negated) ≢ Unknown)

-- AND is true exactly where each member is, and false exactly where some member is; OR the other way
abbrev pub MembersDecide : Type 0
MembersDecide = (row : List Value) (members : List Cond)
    → (is_true (truth row (All members)) ≡ list_all (λ m. is_true (truth row m)) members)
    × (is_false (truth row (All members)) ≡ list_any (λ m. is_false (truth row m)) members)
    × (is_true (truth row (Any members)) ≡ list_any (λ m. is_true (truth row m)) members)
    × (is_false (truth row (Any members)) ≡ list_all (λ m. is_false (truth row m)) members)

-- AND and OR are each other's mirror under NOT
abbrev pub NotMirrors : Type 0
NotMirrors = (row : List Value) (members : List Cond)
    → (truth row (Not (All members)) ≡ truth row (Any (map (λ m. Not m) members)))
    × (truth row (Not (Any members)) ≡ truth row (All (map (λ m. Not m) members)))

-- ---- comparisons

abbrev pub operators : List Op
operators = ops.Equal ∷ ops.Unequal ∷ ops.Less ∷ ops.AtMost ∷ ops.Greater ∷ ops.AtLeast ∷ []

-- what each operator says of a column and what it is compared with
abbrev pub by_each_operator : List Value → ℕ → Side → List Truth
by_each_operator row column with = map (λ op. truth row (Compare column op with)) operators

-- a comparison with a null on either side is unknown
abbrev pub NullIsNotCompared : Type 0
NullIsNotCompared = (row : List Value) (column : ℕ) (with : Side)
    → is_null (value_at row column) || is_null (side_value row with) ≡ true
    → by_each_operator row column with ≡ Unknown ∷ Unknown ∷ Unknown ∷ Unknown ∷ Unknown ∷ Unknown ∷ []

-- known values are compared by their order: = <> < <= > >= for each of its answers
abbrev pub OrderDecides : Type 0
OrderDecides = (row : List Value) (column : ℕ) (with : Side)
    → is_null (value_at row column) || is_null (side_value row with) ≡ false
    → (value_cmp (value_at row column) (side_value row with) ≡ Less
    → by_each_operator row column with ≡ False ∷ True ∷ True ∷ True ∷ False ∷ False ∷ [])
    × (value_cmp (value_at row column) (side_value row with) ≡ Equal
    → by_each_operator row column with ≡ True ∷ False ∷ False ∷ True ∷ False ∷ True ∷ [])
    × (value_cmp (value_at row column) (side_value row with) ≡ Greater
    → by_each_operator row column with ≡ False ∷ True ∷ False ∷ False ∷ True ∷ True ∷ [])

-- ---- what is known stays so

-- a row in which some nulls of the other may be replaced by any values, and all else is the same
abbrev pub IsFilled : List Value → List Value → Type 0
IsFilled [] [] = Unit {0}
IsFilled [] (w ∷ ws) = ⊥
IsFilled (v ∷ vs) [] = ⊥
IsFilled (v ∷ vs) (w ∷ ws) = (is_null v ≡ false → w ≡ v) × IsFilled vs ws

abbrev pub without_null_test_step : Cond-F Bool → Bool
without_null_test_step (layers.Compare column op with) = true
without_null_test_step (layers.IsNull column negated) = false
without_null_test_step (layers.Not part) = part
without_null_test_step (layers.All parts) = all_hold parts
without_null_test_step (layers.Any parts) = all_hold parts

-- IS NULL and IS NOT NULL stand nowhere in the condition
abbrev pub is_without_null_test : Cond → Bool
is_without_null_test = fold-Cond Bool without_null_test_step

-- filling nulls never changes what is known of a condition without IS NULL
abbrev pub FillingKeepsTheKnown : Type 0
FillingKeepsTheKnown = (row full : List Value) (cond : Cond) → IsFilled row full → is_without_null_test cond ≡ true
    → (truth row cond ≡ True → truth full cond ≡ True) × (truth row cond ≡ False → truth full cond ≡ False)

-- IS NULL does change: what is true of (NULL) is false of (1), and the other way for IS NOT NULL
abbrev pub NullTestsChange : Type 0
NullTestsChange = let row = Null ∷ [] in
    let full = Integer (pos 1) ∷ [] in
    IsFilled row full
    × (truth row (IsNull 0 false) ≡ True) × (truth full (IsNull 0 false) ≡ False)
    × (truth row (IsNull 0 true) ≡ False) × (truth full (IsNull 0 true) ≡ True)

-- ---- worked examples

abbrev pub equals : ℕ → Value → Cond
equals column value = Compare column ops.Equal (Known value)

-- on the row (NULL, 1) of columns a and b: a = NULL, NOT (a = NULL), a IS NULL, a = 1 AND b = 1, a = 1 AND b = 2,
-- a = 1 OR b = 1, AND of none, OR of none
abbrev pub ExamplesAreJudged : Type 0
ExamplesAreJudged = let row = Null ∷ Integer (pos 1) ∷ [] in
    map (truth row) (
    equals 0 Null ∷
    Not (equals 0 Null) ∷
    IsNull 0 false ∷
    All (equals 0 (Integer (pos 1)) ∷ equals 1 (Integer (pos 1)) ∷ []) ∷
    All (equals 0 (Integer (pos 1)) ∷ equals 1 (Integer (pos 2)) ∷ []) ∷
    Any (equals 0 (Integer (pos 1)) ∷ equals 1 (Integer (pos 1)) ∷ []) ∷
    All [] ∷
    Any [] ∷
    [])
    ≡ Unknown ∷ Unknown ∷ True ∷ Unknown ∷ False ∷ True ∷ True ∷ False ∷ []

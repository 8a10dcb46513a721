-- Members and operators one by one.
use Rattle.std.proofs.Common.{◌≡◌, refl, sym, ◌∙◌, ap, ℕ, Bool, true, false, ◌&&◌, ◌||◌, if◌then◌else◌, List, [], ◌∷◌, map}
use Rattle.std.specs.List.{list_all, list_any}
use Rattle.std.specs.declared.cmp.Ordering.{Ordering}
use Rattle.pk_values.specs.declared.value.Value.{Value}
use Rattle.pk_values.specs.declared.value.Value.TheVariants.{Null, Integer, Text}
use Rattle.pk_values.specs.Values.{is_null, value_at, value_cmp}
use Rattle.pk_logic.specs.declared.condition.Side.{Side}
use Rattle.pk_logic.specs.declared.condition.Cond.{Cond}
use Rattle.pk_logic.specs.declared.condition.Cond.TheVariants.{Not}
use Rattle.pk_logic.specs.declared.truth.Truth.{Truth}
use Rattle.pk_logic.specs.declared.truth.Truth.TheVariants.{False, Unknown, True}
use Rattle.pk_logic.specs.Truth.{truth_of, opposite, lesser, greater, least, greatest}
use Rattle.pk_logic.specs.Conditions.{op_holds, compared, null_test, side_value, truth}
use Rattle.pk_logic.specs.Laws.{is_true, is_false, operators, by_each_operator}
use Rattle.pk_logic.proofs.Layers.{truth-Compare, truth-Not}
use Rattle.pk_values.proofs.ListLemmas.{map_same}

-- a test for null is never unknown
pub null_test_known : (negated : Bool) (v : Value) → null_test negated v ≡ Unknown → ⊥
null_test_known false Null unknown = cc
null_test_known false (Integer x) unknown = cc
null_test_known false (Text xs) unknown = cc
null_test_known true Null unknown = cc
null_test_known true (Integer x) unknown = cc
null_test_known true (Text xs) unknown = cc

-- ---- members

true-lesser : (a b : Truth) → is_true (lesser a b) ≡ is_true a && is_true b
true-lesser False b = refl
true-lesser Unknown False = refl
true-lesser Unknown Unknown = refl
true-lesser Unknown True = refl
true-lesser True b = refl

false-lesser : (a b : Truth) → is_false (lesser a b) ≡ is_false a || is_false b
false-lesser False b = refl
false-lesser Unknown False = refl
false-lesser Unknown Unknown = refl
false-lesser Unknown True = refl
false-lesser True b = refl

true-greater : (a b : Truth) → is_true (greater a b) ≡ is_true a || is_true b
true-greater True b = refl
true-greater Unknown False = refl
true-greater Unknown Unknown = refl
true-greater Unknown True = refl
true-greater False b = refl

false-greater : (a b : Truth) → is_false (greater a b) ≡ is_false a && is_false b
false-greater True b = refl
false-greater Unknown False = refl
false-greater Unknown Unknown = refl
false-greater Unknown True = refl
false-greater False b = refl

pub true-least : {X : Type 0} (f : X → Truth) (xs : List X) → is_true (least (map f xs)) ≡ list_all (λ x. is_true (f x)) xs
true-least f [] = refl
true-least f (x ∷ xs) = true-lesser (f x) (least (map f xs)) ∙ ap (λ b. is_true (f x) && b) (true-least f xs)

pub false-least : {X : Type 0} (f : X → Truth) (xs : List X) → is_false (least (map f xs)) ≡ list_any (λ x. is_false (f x)) xs
false-least f [] = refl
false-least f (x ∷ xs) = false-lesser (f x) (least (map f xs)) ∙ ap (λ b. is_false (f x) || b) (false-least f xs)

pub true-greatest : {X : Type 0} (f : X → Truth) (xs : List X) → is_true (greatest (map f xs)) ≡ list_any (λ x. is_true (f x)) xs
true-greatest f [] = refl
true-greatest f (x ∷ xs) = true-greater (f x) (greatest (map f xs)) ∙ ap (λ b. is_true (f x) || b) (true-greatest f xs)

pub false-greatest : {X : Type 0} (f : X → Truth) (xs : List X) → is_false (greatest (map f xs)) ≡ list_all (λ x. is_false (f x)) xs
false-greatest f [] = refl
false-greatest f (x ∷ xs) = false-greater (f x) (greatest (map f xs)) ∙ ap (λ b. is_false (f x) && b) (false-greatest f xs)

opposite-lesser : (a b : Truth) → opposite (lesser a b) ≡ greater (opposite a) (opposite b)
opposite-lesser False b = refl
opposite-lesser Unknown False = refl
opposite-lesser Unknown Unknown = refl
opposite-lesser Unknown True = refl
opposite-lesser True b = refl

opposite-greater : (a b : Truth) → opposite (greater a b) ≡ lesser (opposite a) (opposite b)
opposite-greater True b = refl
opposite-greater Unknown False = refl
opposite-greater Unknown Unknown = refl
opposite-greater Unknown True = refl
opposite-greater False b = refl

pub opposite-least : (row : List Value) (members : List Cond)
    → opposite (least (map (truth row) members)) ≡ greatest (map (truth row) (map (λ m. Not m) members))
opposite-least row [] = refl
opposite-least row (m ∷ ms) =
    opposite-lesser (truth row m) (least (map (truth row) ms))
    ∙ ap (greater (opposite (truth row m))) (opposite-least row ms)
    ∙ ap (λ t. greater t (greatest (map (truth row) (map (λ m. Not m) ms)))) (sym (truth-Not row m))

pub opposite-greatest : (row : List Value) (members : List Cond)
    → opposite (greatest (map (truth row) members)) ≡ least (map (truth row) (map (λ m. Not m) members))
opposite-greatest row [] = refl
opposite-greatest row (m ∷ ms) =
    opposite-greater (truth row m) (greatest (map (truth row) ms))
    ∙ ap (lesser (opposite (truth row m))) (opposite-greatest row ms)
    ∙ ap (λ t. lesser t (least (map (truth row) (map (λ m. Not m) ms)))) (sym (truth-Not row m))

-- ---- operators

-- what each operator says, by whether a null is compared, and by the order of the two
abbrev pub table : Bool → Ordering → List Truth
table null order = map (λ op. if null then Unknown else truth_of (op_holds op order)) operators

pub by_each_is_table : (row : List Value) (column : ℕ) (with : Side)
    → by_each_operator row column with
    ≡ table (is_null (value_at row column) || is_null (side_value row with)) (value_cmp (value_at row column) (side_value row with))
by_each_is_table row column with =
    map_same _ (λ op. compared op (value_at row column) (side_value row with)) (λ op. truth-Compare row column op with) operators

-- What is known of a condition without IS NULL stays so where nulls are filled.
use Rattle.std.proofs.Common.{◌≡◌, refl, sym, ◌∙◌, ap, subst, ℕ, zero, suc, Bool, true, false, List, [], ◌∷◌, map}
use Rattle.pk_values.specs.declared.value.Value.{Value}
use Rattle.pk_values.specs.declared.value.Value.TheVariants.{Null, Integer, Text}
use Rattle.pk_values.specs.Values.{is_null, value_at}
use Rattle.pk_logic.specs.declared.condition.Op.{Op}
use Rattle.pk_logic.specs.declared.condition.Side.{Side}
use Rattle.pk_logic.specs.declared.condition.Side.TheVariants.{Known, Column}
use Rattle.pk_logic.specs.declared.condition.Cond.{Cond}
use Rattle.pk_logic.specs.declared.condition.Cond.TheOpen as layers
use Rattle.pk_logic.specs.declared.condition.Cond.TheOpen.{Cond-F}
use Rattle.pk_logic.specs.declared.condition.Cond.TheViews.{roll-Cond}
use Rattle.pk_logic.specs.declared.condition.Cond.TheFolds.{map-Cond, fold-roll-Cond, ind-Cond}
use Rattle.pk_logic.specs.declared.truth.Truth.{Truth}
use Rattle.pk_logic.specs.declared.truth.Truth.TheVariants.{False, Unknown, True}
use Rattle.pk_logic.specs.Truth.{opposite, lesser, greater, least, greatest}
use Rattle.pk_logic.specs.Conditions.{compared, side_value, truth_step, truth, all_hold}
use Rattle.pk_logic.specs.Laws.{IsFilled, without_null_test_step, is_without_null_test}
use Rattle.pk_logic.proofs.Members.{first_holds, rest_holds}
use Rattle.pk_logic.proofs.TruthLemmas.{lesser_false, greater_true}

-- what is known of the first holds of the second
abbrev IsKept : Truth → Truth → Type 0
IsKept a b = (a ≡ True → b ≡ True) × (a ≡ False → b ≡ False)

abbrev StaysKnown : List Value → List Value → Cond → Type 0
StaysKnown row full cond = is_without_null_test cond ≡ true → IsKept (truth row cond) (truth full cond)

kept_by : {a b c d : Truth} → a ≡ c → b ≡ d → IsKept c d → IsKept a b
kept_by a_is b_is kept = (λ e. b_is ∙ kept.0 (sym a_is ∙ e), λ e. b_is ∙ kept.1 (sym a_is ∙ e))

opposite_kept : (a b : Truth) → IsKept a b → IsKept (opposite a) (opposite b)
opposite_kept False b kept = (λ e. ap opposite (kept.1 refl), λ e. cc)
opposite_kept Unknown b kept = (λ e. cc, λ e. cc)
opposite_kept True b kept = (λ e. cc, λ e. ap opposite (kept.0 refl))

lesser_kept : (a b c d : Truth) → IsKept a c → IsKept b d → IsKept (lesser a b) (lesser c d)
lesser_kept False b c d kept also = (λ e. cc, λ e. ap (λ t. lesser t d) (kept.1 refl))
lesser_kept Unknown False c d kept also = (λ e. cc, λ e. ap (lesser c) (also.1 refl) ∙ lesser_false c)
lesser_kept Unknown Unknown c d kept also = (λ e. cc, λ e. cc)
lesser_kept Unknown True c d kept also = (λ e. cc, λ e. cc)
lesser_kept True b c d kept also = subst (λ t. IsKept b (lesser t d)) (sym (kept.0 refl)) also

greater_kept : (a b c d : Truth) → IsKept a c → IsKept b d → IsKept (greater a b) (greater c d)
greater_kept True b c d kept also = (λ e. ap (λ t. greater t d) (kept.0 refl), λ e. cc)
greater_kept Unknown True c d kept also = (λ e. ap (greater c) (also.0 refl) ∙ greater_true c, λ e. cc)
greater_kept Unknown Unknown c d kept also = (λ e. cc, λ e. cc)
greater_kept Unknown False c d kept also = (λ e. cc, λ e. cc)
greater_kept False b c d kept also = subst (λ t. IsKept b (greater t d)) (sym (kept.1 refl)) also

-- ---- comparisons

value_kept : (row full : List Value) (c : ℕ) → IsFilled row full → is_null (value_at row c) ≡ false → value_at full c ≡ value_at row c
value_kept [] [] c filled known = refl
value_kept [] (w ∷ ws) c filled known = absurd filled
value_kept (v ∷ vs) [] c filled known = absurd filled
value_kept (v ∷ vs) (w ∷ ws) zero filled known = filled.0 known
value_kept (v ∷ vs) (w ∷ ws) (suc c) filled known = value_kept vs ws c filled.1 known

side_kept : (row full : List Value) (side : Side) → IsFilled row full
    → is_null (side_value row side) ≡ false → side_value full side ≡ side_value row side
side_kept row full (Known value) filled known = refl
side_kept row full (Column c) filled known = value_kept row full c filled known

same_kept : (t : Truth) → IsKept t t
same_kept t = (λ e. e, λ e. e)

known_kept : (op : Op) (a b v w : Value) → v ≡ a → w ≡ b → IsKept (compared op a b) (compared op v w)
known_kept op a b v w first second = kept_by refl (ap (λ x. compared op x w) first ∙ ap (compared op a) second) (same_kept (compared op a b))

compared_kept : (op : Op) (a b v w : Value) → (is_null a ≡ false → v ≡ a) → (is_null b ≡ false → w ≡ b)
    → IsKept (compared op a b) (compared op v w)
compared_kept op Null b v w first second = (λ e. cc, λ e. cc)
compared_kept op (Integer x) Null v w first second = (λ e. cc, λ e. cc)
compared_kept op (Text xs) Null v w first second = (λ e. cc, λ e. cc)
compared_kept op (Integer x) (Integer y) v w first second = known_kept op (Integer x) (Integer y) v w (first refl) (second refl)
compared_kept op (Integer x) (Text ys) v w first second = known_kept op (Integer x) (Text ys) v w (first refl) (second refl)
compared_kept op (Text xs) (Integer y) v w first second = known_kept op (Text xs) (Integer y) v w (first refl) (second refl)
compared_kept op (Text xs) (Text ys) v w first second = known_kept op (Text xs) (Text ys) v w (first refl) (second refl)

-- ---- members

abbrev Part : List Value → List Value → Type 0
Part row full = (cond : Cond) × StaysKnown row full cond

abbrev conds : (row full : List Value) → List (Part row full) → List Cond
conds row full parts = map (λ part. part.0) parts

least_kept : (row full : List Value) (parts : List (Part row full)) → all_hold (map is_without_null_test (conds row full parts)) ≡ true
    → IsKept (least (map (truth row) (conds row full parts))) (least (map (truth full) (conds row full parts)))
least_kept row full [] without = same_kept True
least_kept row full (p ∷ ps) without =
    let tests = map is_without_null_test (conds row full ps) in
    lesser_kept (truth row p.0) (least (map (truth row) (conds row full ps)))
    (truth full p.0) (least (map (truth full) (conds row full ps)))
    (p.1 (first_holds (is_without_null_test p.0) tests without))
    (least_kept row full ps (rest_holds (is_without_null_test p.0) tests without))

greatest_kept : (row full : List Value) (parts : List (Part row full)) → all_hold (map is_without_null_test (conds row full parts)) ≡ true
    → IsKept (greatest (map (truth row) (conds row full parts))) (greatest (map (truth full) (conds row full parts)))
greatest_kept row full [] without = same_kept False
greatest_kept row full (p ∷ ps) without =
    let tests = map is_without_null_test (conds row full ps) in
    greater_kept (truth row p.0) (greatest (map (truth row) (conds row full ps)))
    (truth full p.0) (greatest (map (truth full) (conds row full ps)))
    (p.1 (first_holds (is_without_null_test p.0) tests without))
    (greatest_kept row full ps (rest_holds (is_without_null_test p.0) tests without))

-- ---- conditions

rolled : (row : List Value) (x : Cond-F Cond) → truth row (roll-Cond x) ≡ truth_step row (map-Cond Cond Truth (truth row) x)
rolled row x = fold-roll-Cond Truth (truth_step row) x

rolled_test : (x : Cond-F Cond) → is_without_null_test (roll-Cond x) ≡ without_null_test_step (map-Cond Cond Bool is_without_null_test x)
rolled_test x = fold-roll-Cond Bool without_null_test_step x

layer_kept : (row full : List Value) → IsFilled row full → (y : Cond-F (Part row full))
    → StaysKnown row full (roll-Cond (map-Cond (Part row full) Cond (λ part. part.0) y))
layer_kept row full filled (layers.Compare column op with) without =
    let x = layers.Compare column op with in
    kept_by (rolled row x) (rolled full x)
    (compared_kept op (value_at row column) (side_value row with) (value_at full column) (side_value full with)
    (value_kept row full column filled) (side_kept row full with filled))
layer_kept row full filled (layers.IsNull column negated) without =
    let none = sym (rolled_test (layers.IsNull column negated)) ∙ without in cc
layer_kept row full filled (layers.Not part) without =
    let x = layers.Not part.0 in
    kept_by (rolled row x) (rolled full x)
    (opposite_kept (truth row part.0) (truth full part.0) (part.1 (sym (rolled_test x) ∙ without)))
layer_kept row full filled (layers.All parts) without =
    let x = layers.All (conds row full parts) in
    kept_by (rolled row x) (rolled full x) (least_kept row full parts (sym (rolled_test x) ∙ without))
layer_kept row full filled (layers.Any parts) without =
    let x = layers.Any (conds row full parts) in
    kept_by (rolled row x) (rolled full x) (greatest_kept row full parts (sym (rolled_test x) ∙ without))

pub stays_known : (row full : List Value) → IsFilled row full → (cond : Cond) → StaysKnown row full cond
stays_known row full filled = ind-Cond (StaysKnown row full)
    (λ x y is. subst (λ z. StaysKnown row full (roll-Cond z)) is (layer_kept row full filled y))

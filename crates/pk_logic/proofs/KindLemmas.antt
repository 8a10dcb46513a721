-- A condition over the kinds of a row's columns may be judged on the row.
use Rattle.std.proofs.Common.{◌≡◌, refl, sym, ◌∙◌, subst, ℕ, zero, suc, ◌<◌, Bool, true, ◌&&◌, List, [], ◌∷◌, map, length, Option, Some, None, arith, nat_lt}
use Rattle.std.specs.Prelude.{not}
use Rattle.std.proofs.lemmas.Bool.{lt-ltb, and_parts, and_from}
use Rattle.pk_values.specs.declared.kind.Kind.{Kind}
use Rattle.pk_values.specs.declared.kind.Kind.TheVariants as kinds
use Rattle.pk_values.specs.declared.value.Value.{Value}
use Rattle.pk_values.specs.declared.value.Value.TheVariants.{Null, Integer, Text}
use Rattle.pk_values.specs.Values.{value_at, fits_kind, fits_kinds}
use Rattle.pk_logic.specs.declared.condition.Side.{Side}
use Rattle.pk_logic.specs.declared.condition.Side.TheVariants.{Known, Column}
use Rattle.pk_logic.specs.declared.condition.Cond.{Cond}
use Rattle.pk_logic.specs.declared.condition.Cond.TheOpen as layers
use Rattle.pk_logic.specs.declared.condition.Cond.TheOpen.{Cond-F}
use Rattle.pk_logic.specs.declared.condition.Cond.TheViews.{roll-Cond}
use Rattle.pk_logic.specs.declared.condition.Cond.TheFolds.{map-Cond, fold-roll-Cond, ind-Cond}
use Rattle.pk_logic.specs.Conditions.{side_value, side_fits, differ_in_kind, can_compare, judgeable_step, is_judgeable, all_hold}
use Rattle.pk_logic.specs.Kinds.{kind_at, is_of_kind, side_is_of_kind, compares_one_kind, is_column, over_kinds_step, is_over_kinds}
use Rattle.pk_logic.proofs.Members.{first_holds, rest_holds}

-- ---- columns

below : (ks : List Kind) (row : List Value) (c : ℕ) (kind : Kind) → fits_kinds ks row ≡ true → kind_at ks c ≡ Some kind → c < length row
below [] row c kind fits there = cc
below (k ∷ ks) [] c kind fits there = cc
below (k ∷ ks) (v ∷ vs) zero kind fits there = omega arith
below (k ∷ ks) (v ∷ vs) (suc c) kind fits there = omega (arith, below ks vs c kind (and_parts (fits_kind k v) (fits_kinds ks vs) fits).1 there)

column_fits : (ks : List Kind) (row : List Value) (c : ℕ) (kind : Kind) → fits_kinds ks row ≡ true → kind_at ks c ≡ Some kind
    → fits_kind kind (value_at row c) ≡ true
column_fits [] row c kind fits there = cc
column_fits (k ∷ ks) [] c kind fits there = cc
column_fits (k ∷ ks) (v ∷ vs) zero kind fits there =
    let same : k ≡ kind = cc in
    subst (λ x. fits_kind x v ≡ true) same (and_parts (fits_kind k v) (fits_kinds ks vs) fits).0
column_fits (k ∷ ks) (v ∷ vs) (suc c) kind fits there = column_fits ks vs c kind (and_parts (fits_kind k v) (fits_kinds ks vs) fits).1 there

is_there : (found : Option Kind) (kind : Kind) → is_of_kind found kind ≡ true → found ≡ Some kind
is_there None kind holds = cc
is_there (Some kinds.Integer) kinds.Integer holds = refl
is_there (Some kinds.Integer) kinds.Text holds = cc
is_there (Some kinds.Text) kinds.Integer holds = cc
is_there (Some kinds.Text) kinds.Text holds = refl

-- ---- comparisons

side_within : (ks : List Kind) (row : List Value) (side : Side) (kind : Kind) → fits_kinds ks row ≡ true
    → side_is_of_kind ks side kind ≡ true → side_fits row side ≡ true
side_within ks row (Known value) kind fits holds = refl
side_within ks row (Column c) kind fits holds = lt-ltb c (length row) (below ks row c kind fits (is_there (kind_at ks c) kind holds))

side_of_kind : (ks : List Kind) (row : List Value) (side : Side) (kind : Kind) → fits_kinds ks row ≡ true
    → side_is_of_kind ks side kind ≡ true → fits_kind kind (side_value row side) ≡ true
side_of_kind ks row (Known value) kind fits holds = holds
side_of_kind ks row (Column c) kind fits holds = column_fits ks row c kind fits (is_there (kind_at ks c) kind holds)

one_kind : (kind : Kind) (a b : Value) → fits_kind kind a ≡ true → fits_kind kind b ≡ true → not (differ_in_kind a b) ≡ true
one_kind kind Null b first second = refl
one_kind kind (Integer x) Null first second = refl
one_kind kind (Integer x) (Integer y) first second = refl
one_kind kinds.Integer (Integer x) (Text ys) first second = cc
one_kind kinds.Text (Integer x) (Text ys) first second = cc
one_kind kind (Text xs) Null first second = refl
one_kind kinds.Integer (Text xs) (Integer y) first second = cc
one_kind kinds.Text (Text xs) (Integer y) first second = cc
one_kind kind (Text xs) (Text ys) first second = refl

may_compare : (ks : List Kind) (row : List Value) (column : ℕ) (side : Side) (found : Option Kind)
    → kind_at ks column ≡ found → fits_kinds ks row ≡ true → compares_one_kind ks found side ≡ true → can_compare row column side ≡ true
may_compare ks row column side None there fits holds = cc
may_compare ks row column side (Some kind) there fits holds =
    and_from (nat_lt column (length row) && side_fits row side) _
    (and_from (nat_lt column (length row)) (side_fits row side) (lt-ltb column (length row) (below ks row column kind fits there)) (side_within ks row side kind fits holds))
    (one_kind kind (value_at row column) (side_value row side) (column_fits ks row column kind fits there) (side_of_kind ks row side kind fits holds))

is_within : (ks : List Kind) (row : List Value) (column : ℕ) (found : Option Kind)
    → kind_at ks column ≡ found → fits_kinds ks row ≡ true → is_column found ≡ true → nat_lt column (length row) ≡ true
is_within ks row column None there fits holds = cc
is_within ks row column (Some kind) there fits holds = lt-ltb column (length row) (below ks row column kind fits there)

-- ---- conditions

abbrev MayBeJudged : List Kind → List Value → Cond → Type 0
MayBeJudged ks row cond = is_over_kinds ks cond ≡ true → is_judgeable row cond ≡ true

abbrev Part : List Kind → List Value → Type 0
Part ks row = (cond : Cond) × MayBeJudged ks row cond

abbrev conds : (ks : List Kind) (row : List Value) → List (Part ks row) → List Cond
conds ks row parts = map (λ part. part.0) parts

all_may : (ks : List Kind) (row : List Value) (parts : List (Part ks row))
    → all_hold (map (is_over_kinds ks) (conds ks row parts)) ≡ true → all_hold (map (is_judgeable row) (conds ks row parts)) ≡ true
all_may ks row [] over = refl
all_may ks row (p ∷ ps) over =
    let tests = map (is_over_kinds ks) (conds ks row ps) in
    and_from (is_judgeable row p.0) (all_hold (map (is_judgeable row) (conds ks row ps)))
    (p.1 (first_holds (is_over_kinds ks p.0) tests over))
    (all_may ks row ps (rest_holds (is_over_kinds ks p.0) tests over))

rolled : (row : List Value) (x : Cond-F Cond) → is_judgeable row (roll-Cond x) ≡ judgeable_step row (map-Cond Cond Bool (is_judgeable row) x)
rolled row x = fold-roll-Cond Bool (judgeable_step row) x

rolled_kinds : (ks : List Kind) (x : Cond-F Cond) → is_over_kinds ks (roll-Cond x) ≡ over_kinds_step ks (map-Cond Cond Bool (is_over_kinds ks) x)
rolled_kinds ks x = fold-roll-Cond Bool (over_kinds_step ks) x

layer_judgeable : (ks : List Kind) (row : List Value) → fits_kinds ks row ≡ true → (y : Cond-F (Part ks row))
    → MayBeJudged ks row (roll-Cond (map-Cond (Part ks row) Cond (λ part. part.0) y))
layer_judgeable ks row fits (layers.Compare column op with) over =
    let x = layers.Compare column op with in
    rolled row x ∙ may_compare ks row column with (kind_at ks column) refl fits (sym (rolled_kinds ks x) ∙ over)
layer_judgeable ks row fits (layers.IsNull column negated) over =
    let x = layers.IsNull column negated in
    rolled row x ∙ is_within ks row column (kind_at ks column) refl fits (sym (rolled_kinds ks x) ∙ over)
layer_judgeable ks row fits (layers.Not part) over =
    let x = layers.Not part.0 in
    rolled row x ∙ part.1 (sym (rolled_kinds ks x) ∙ over)
layer_judgeable ks row fits (layers.All parts) over =
    let x = layers.All (conds ks row parts) in
    rolled row x ∙ all_may ks row parts (sym (rolled_kinds ks x) ∙ over)
layer_judgeable ks row fits (layers.Any parts) over =
    let x = layers.Any (conds ks row parts) in
    rolled row x ∙ all_may ks row parts (sym (rolled_kinds ks x) ∙ over)

pub may_be_judged : (ks : List Kind) (row : List Value) → fits_kinds ks row ≡ true → (cond : Cond) → MayBeJudged ks row cond
may_be_judged ks row fits = ind-Cond (MayBeJudged ks row)
    (λ x y is. subst (λ z. MayBeJudged ks row (roll-Cond z)) is (layer_judgeable ks row fits y))

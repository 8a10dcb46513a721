-- The rule, from the steps one way and from the two rows the other.
use Rattle.std.proofs.Common.{◌≡◌, refl, sym, ◌∙◌, subst, ℕ, suc, ◌^◌, ◌<◌, Bool, true, false, not, ◌&&◌, ◌||◌, List, [], ◌∷◌, length, inl, inr, arith}
use Rattle.std.specs.Prelude.{Some, slice_get}
use Rattle.std.specs.List.{list_any, All}
use Rattle.std.proofs.lemmas.Bool.{and_from, or_parts, cases_Bool, both_ways}
use Rattle.std.proofs.lemmas.List.Elements.{All-nil, All-cons, All-head, All-tail}
use Rattle.std.proofs.lemmas.Option.{get_or_from_slice_get, slice_get_within}
use Rattle.pk_values.specs.declared.key.KeyDecl.{KeyDecl}
use Rattle.pk_values.specs.declared.key.Sort.{Sort}
use Rattle.pk_values.specs.declared.key.Sort.TheVariants as sorts
use Rattle.pk_values.specs.declared.kind.Kind.{Kind}
use Rattle.pk_values.specs.declared.value.Value.{Value}
use Rattle.pk_values.specs.ColumnSet.{columns, is_subset}
use Rattle.pk_values.specs.Values.{fits_kinds}
use Rattle.pk_syntax.specs.Declarations.{is_certain}
use Rattle.pk_similar.specs.Laws.{all_fit}
use Rattle.pk_similar.specs.Similarity.{are_below, weak, strong}
use Rattle.pk_similar.proofs.TableLemmas.{table_weight, kept_apart, kept_apart_completes, no_strong_agree, apart_no_strong, no_weak_agree, certain_no_weak}
use Rattle.pk_rule.specs.Plain.{Plain, IsPlain}
use Rattle.pk_rule.specs.Tables.{HoldsAs, KeyHolds, AllHold, TableOf, Implied, all_known}
use Rattle.pk_rule.specs.Rule.{alone_implies, is_implied}
use Rattle.pk_rule.specs.TwoRows.{low_row, high_row}
use Rattle.pk_rule.specs.Laws.{with_key}
use Rattle.pk_rule.proofs.StepLemmas.{step_holds}
use Rattle.pk_rule.proofs.RowLemmas.{low_row_fits, high_row_fits, low_row_known, high_row_known, two_rows_weak, two_rows_strong}
use Rattle.pk_values.proofs.ColumnLemmas.{set_bounded, columns_below, subset_itself}

abbrev Inside : ℕ → KeyDecl → Type 0
Inside n = λ (k : KeyDecl). k.columns < 2 ^ n

-- ---- what the rule names holds

alone_holds :
    (s : Plain) (d k : KeyDecl) (rows : List (List Value)) → IsPlain s → k.columns < 2 ^ length s.kinds → all_fit s.kinds rows ≡ true → all_known s.known rows ≡ true
    → alone_implies s.known d k ≡ true → KeyHolds s.kinds rows d → KeyHolds s.kinds rows k
alone_holds s d k rows plain inside fit known implies holds =
    step_holds s.kinds rows s.known d.sort k.sort d.columns k.columns (set_bounded s.known (length s.kinds) plain.few_columns plain.known_inside)
    (set_bounded k.columns (length s.kinds) plain.few_columns inside) fit known implies holds

some_holds :
    (s : Plain) (k : KeyDecl) (rows : List (List Value)) (keys : List KeyDecl) → IsPlain s → k.columns < 2 ^ length s.kinds → all_fit s.kinds rows ≡ true → all_known s.known rows ≡ true
    → list_any (λ d. alone_implies s.known d k) keys ≡ true → AllHold s.kinds rows keys → KeyHolds s.kinds rows k
some_holds s k rows [] plain inside fit known some hold = cc
some_holds s k rows (d ∷ ds) plain inside fit known some hold =
    elim (cases_Bool (alone_implies s.known d k)) [
      | inl here ↦ alone_holds s d k rows plain inside fit known here (All-head (KeyHolds s.kinds rows) d ds hold)
      | inr not_here ↦
          some_holds s k rows ds plain inside fit known
          (subst (λ t. (t || list_any (λ e. alone_implies s.known e k) ds) ≡ true) not_here some) (All-tail (KeyHolds s.kinds rows) d ds hold)
    ]

pub implied_holds : (s : Plain) (k : KeyDecl) → IsPlain s → k.columns < 2 ^ length s.kinds → is_implied s k ≡ true → Implied s k
unfolding is_implied
implied_holds s k plain inside implied = λ rows table. some_holds s k rows s.keys plain inside table.0 table.1 implied table.2

-- ---- what it doesn't name fails

-- how two rows are related that break a key of the sort
abbrev related : Sort → List ℕ → List Value → List Value → Bool
related sorts.Certain = weak
related sorts.Possible = strong

pair_from : (t : Bool) → t ≡ false → (not (t || false) && (not false && true)) ≡ true
pair_from false none = refl
pair_from true some = sym some

pair_to : (t : Bool) → (not (t || false) && (not false && true)) ≡ true → t ≡ false
pair_to false none = refl
pair_to true none = sym none

-- a key holds in a table of two rows that aren't related, and in no other
two_hold :
    (kinds : List Kind) (a b : List Value) (cs : List ℕ) (sort : Sort) → fits_kinds kinds a ≡ true → fits_kinds kinds b ≡ true → are_below (length kinds) cs ≡ true
    → related sort cs a b ≡ false → HoldsAs sort kinds (a ∷ b ∷ []) cs
two_hold kinds a b cs sorts.Certain fits_a fits_b below none = λ full done. no_weak_agree kinds cs (a ∷ b ∷ []) full done (pair_from (weak cs a b) none)
two_hold kinds a b cs sorts.Possible fits_a fits_b below none =
    let rows = a ∷ b ∷ [] in
    let n = suc (table_weight rows) in
    let fit : all_fit kinds rows ≡ true = and_from _ _ fits_a (and_from _ _ fits_b refl) in
    (kept_apart kinds n rows, kept_apart_completes kinds n rows fit, no_strong_agree kinds cs below rows n fit (omega arith) (pair_from (strong cs a b) none))

two_fail :
    (kinds : List Kind) (a b : List Value) (cs : List ℕ) (sort : Sort) → fits_kinds kinds a ≡ true → fits_kinds kinds b ≡ true
    → HoldsAs sort kinds (a ∷ b ∷ []) cs → related sort cs a b ≡ false
two_fail kinds a b cs sorts.Certain fits_a fits_b holds =
    pair_to (weak cs a b) (certain_no_weak kinds cs (a ∷ b ∷ []) (and_from _ _ fits_a (and_from _ _ fits_b refl)) holds)
two_fail kinds a b cs sorts.Possible fits_a fits_b holds =
    pair_to (strong cs a b) (apart_no_strong kinds cs (a ∷ b ∷ []) holds.0 holds.1 holds.2)

-- the two rows of a key are related on the columns of another exactly where this one alone implies the key
rows_related : (s : Plain) (d k : KeyDecl) → d.columns < 2 ^ length s.kinds → related d.sort (columns d.columns) (low_row s k) (high_row s k) ≡ alone_implies s.known d k
rows_related s d k inside = by_sort d.sort
  where
    certain_enough : (a b c : Bool) → a ≡ (a && (b || true || c))
    certain_enough true true c = refl
    certain_enough true false c = refl
    certain_enough false b c = refl

    possible_enough : (a b c : Bool) → (a && (b || c)) ≡ (a && (b || false || c))
    possible_enough true true c = refl
    possible_enough true false c = refl
    possible_enough false b c = refl

    by_sort :
        (sort : Sort)
        → related sort (columns d.columns) (low_row s k) (high_row s k)
        ≡ (is_subset d.columns k.columns && (not (is_certain k.sort) || is_certain sort || is_subset d.columns s.known))
    by_sort sorts.Certain = two_rows_weak s k d.columns inside ∙ certain_enough (is_subset d.columns k.columns) (not (is_certain k.sort)) (is_subset d.columns s.known)
    by_sort sorts.Possible = two_rows_strong s k d.columns inside ∙ possible_enough (is_subset d.columns k.columns) (not (is_certain k.sort)) (is_subset d.columns s.known)

-- every key that doesn't imply it holds in the table of its two rows
keys_hold :
    (s : Plain) (k : KeyDecl) (keys : List KeyDecl) → All (Inside (length s.kinds)) keys → list_any (λ d. alone_implies s.known d k) keys ≡ false
    → AllHold s.kinds (low_row s k ∷ high_row s k ∷ []) keys
keys_hold s k [] inside none = All-nil (KeyHolds s.kinds (low_row s k ∷ high_row s k ∷ []))
keys_hold s k (d ∷ ds) inside none =
    let parts = or_parts (alone_implies s.known d k) (list_any (λ e. alone_implies s.known e k) ds) none in
    let here = All-head (Inside (length s.kinds)) d ds inside in
    All-cons (KeyHolds s.kinds (low_row s k ∷ high_row s k ∷ [])) d ds
    (two_hold s.kinds (low_row s k) (high_row s k) (columns d.columns) d.sort (low_row_fits s k) (high_row_fits s k) (columns_below d.columns (length s.kinds) here)
    (rows_related s d k here ∙ parts.0))
    (keys_hold s k ds (All-tail (Inside (length s.kinds)) d ds inside) parts.1)

pub two_rows_are_table : (s : Plain) (k : KeyDecl) → IsPlain s → is_implied s k ≡ false → TableOf s (low_row s k ∷ high_row s k ∷ [])
unfolding is_implied
two_rows_are_table s k plain none = (
  and_from _ _ (low_row_fits s k) (and_from _ _ (high_row_fits s k) refl),
  and_from _ _ (low_row_known s k plain.known_inside) (and_from _ _ (high_row_known s k plain.known_inside) refl),
  keys_hold s k s.keys plain.keys_inside none,
)

-- a key alone implies itself
pub itself_implied : (known : ℕ) (k : KeyDecl) → alone_implies known k k ≡ true
itself_implied known k = rw (subset_itself k.columns) (either (is_certain k.sort) (is_subset k.columns known))
  where
    either : (a b : Bool) → (not a || a || b) ≡ true
    either true b = refl
    either false b = refl

-- so its two rows break it
pub two_rows_break : (s : Plain) (k : KeyDecl) → k.columns < 2 ^ length s.kinds → ¬ KeyHolds s.kinds (low_row s k ∷ high_row s k ∷ []) k
two_rows_break s k inside = λ holds.
    both_ways (related k.sort (columns k.columns) (low_row s k) (high_row s k))
    (two_fail s.kinds (low_row s k) (high_row s k) (columns k.columns) k.sort (low_row_fits s k) (high_row_fits s k) holds)
    (rows_related s k k inside ∙ itself_implied s.known k)

pub holds_implied : (s : Plain) (k : KeyDecl) → IsPlain s → k.columns < 2 ^ length s.kinds → Implied s k → is_implied s k ≡ true
holds_implied s k plain inside implied =
    elim (cases_Bool (is_implied s k)) [
      | inl named ↦ named
      | inr none ↦ absurd (two_rows_break s k inside (implied (low_row s k ∷ high_row s k ∷ []) (two_rows_are_table s k plain none)))
    ]

-- ---- one key

pub one_named : (s : Plain) (d k : KeyDecl) → is_implied (with_key s d) k ≡ true → alone_implies s.known d k ≡ true
unfolding is_implied
one_named s d k named = first (alone_implies s.known d k) named
  where
    first : (t : Bool) → (t || false) ≡ true → t ≡ true
    first true named = refl
    first false named = named

pub one_named_back : (s : Plain) (d k : KeyDecl) → alone_implies s.known d k ≡ true → is_implied (with_key s d) k ≡ true
unfolding is_implied
one_named_back s d k alone = rw alone refl

-- ---- one key among those that hold

pub one_holds : (kinds : List Kind) (rows : List (List Value)) (keys : List KeyDecl) (i : ℕ) (k : KeyDecl) → AllHold kinds rows keys
    → slice_get keys i ≡ Some k → KeyHolds kinds rows k
one_holds kinds rows keys i k hold is =
    subst (KeyHolds kinds rows) (get_or_from_slice_get keys i k k is) (hold i k (slice_get_within keys i k is))

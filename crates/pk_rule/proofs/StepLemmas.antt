-- The steps by which one key implies another, over any table.
use Rattle.std.proofs.Common.{◌≡◌, refl, subst, ℕ, true, not, ◌&&◌, ◌||◌, List, [], ◌∷◌, inl, inr}
use Rattle.std.specs.List.{list_all, list_any}
use Rattle.std.proofs.lemmas.Bool.{and_parts, cases_eq, ne_eqb}
use Rattle.pk_values.specs.declared.key.Sort.{Sort}
use Rattle.pk_values.specs.declared.key.Sort.TheVariants as sorts
use Rattle.pk_values.specs.declared.kind.Kind.{Kind}
use Rattle.pk_values.specs.declared.value.Value.{Value}
use Rattle.pk_values.specs.declared.value.Value.TheVariants.{Null, Integer, Text}
use Rattle.pk_values.specs.ColumnSet.{IsColumnSet, columns, is_subset}
use Rattle.pk_values.specs.Values.{is_null, value_at}
use Rattle.pk_syntax.specs.Declarations.{is_certain}
use Rattle.pk_similar.specs.Completions.{AgreeOn, AgreesWithNone, NoneAgree, Certain, Possible}
use Rattle.pk_similar.specs.Laws.{all_fit}
use Rattle.pk_similar.specs.Similarity.{is_among, weak_entries, strong_entries, weak, strong, no_pair}
use Rattle.pk_similar.proofs.TableLemmas.{blanked, blanked_completes, no_weak_agree, apart_no_strong}
use Rattle.pk_rule.specs.Tables.{HoldsAs, is_known_on, all_known}
use Rattle.pk_rule.proofs.ColumnLemmas.{subset_among, all_of_part}

-- ---- extension

agree_at : (all : List ℕ) (a b : List Value) (c : ℕ) → is_among all c ≡ true → AgreeOn all a b → value_at a c ≡ value_at b c
agree_at [] a b c among agree = cc
agree_at (d ∷ ds) a b c among agree =
    elim (cases_eq d c) [
      | inl same ↦ subst (λ e. value_at a e ≡ value_at b e) same agree.0
      | inr other ↦ agree_at ds a b c (subst (λ t. (t || is_among ds c) ≡ true) (ne_eqb d c other) among) agree.1
    ]

-- rows that agree on some columns agree on each part of them
agree_on_part : (all cs : List ℕ) (a b : List Value) → list_all (is_among all) cs ≡ true → AgreeOn all a b → AgreeOn cs a b
agree_on_part all [] a b inside agree = tt
agree_on_part all (c ∷ cs) a b inside agree =
    let parts = and_parts (is_among all c) (list_all (is_among all) cs) inside in
    (agree_at all a b c parts.0 agree, agree_on_part all cs a b parts.1 agree)

agrees_with_none : (all cs : List ℕ) (row : List Value) (rows : List (List Value)) → list_all (is_among all) cs ≡ true → AgreesWithNone cs row rows → AgreesWithNone all row rows
agrees_with_none all cs row [] inside none = tt
agrees_with_none all cs row (other ∷ others) inside none =
    ((λ agree. none.0 (agree_on_part all cs row other inside agree)), agrees_with_none all cs row others inside none.1)

-- so rows none of which agree on a part agree on no more columns
none_agree : (all cs : List ℕ) (rows : List (List Value)) → list_all (is_among all) cs ≡ true → NoneAgree cs rows → NoneAgree all rows
none_agree all cs [] inside none = tt
none_agree all cs (row ∷ rows) inside none = (agrees_with_none all cs row rows inside none.0, none_agree all cs rows inside none.1)

pub extended :
    (kinds : List Kind) (rows : List (List Value)) (sort : Sort) (all cs : List ℕ) → list_all (is_among all) cs ≡ true
    → HoldsAs sort kinds rows cs → HoldsAs sort kinds rows all
extended kinds rows sorts.Certain all cs inside certain = λ full done. none_agree all cs full inside (certain full done)
extended kinds rows sorts.Possible all cs inside possible = (possible.0, possible.1, none_agree all cs possible.0 inside possible.2)

-- ---- weakening

pub weakened : (kinds : List Kind) (rows : List (List Value)) (cs : List ℕ) → all_fit kinds rows ≡ true → Certain kinds rows cs → Possible kinds rows cs
weakened kinds rows cs fit certain = (blanked kinds rows, blanked_completes kinds rows fit, certain (blanked kinds rows) (blanked_completes kinds rows fit))

-- ---- strengthening

-- known entries are weakly similar only where they are strongly so
known_entries : (v w : Value) → not (is_null v) ≡ true → not (is_null w) ≡ true → weak_entries v w ≡ strong_entries v w
known_entries Null w left right = cc
known_entries (Integer x) Null left right = cc
known_entries (Integer x) (Integer y) left right = refl
known_entries (Integer x) (Text ys) left right = refl
known_entries (Text xs) Null left right = cc
known_entries (Text xs) (Integer y) left right = refl
known_entries (Text xs) (Text ys) left right = refl

known_rows : (cs : List ℕ) (a b : List Value) → is_known_on cs a ≡ true → is_known_on cs b ≡ true → weak cs a b ≡ strong cs a b
unfolding weak strong
known_rows [] a b left right = refl
known_rows (c ∷ cs) a b left right =
    let of_a = and_parts (not (is_null (value_at a c))) (is_known_on cs a) left in
    let of_b = and_parts (not (is_null (value_at b c))) (is_known_on cs b) right in
    rw (known_entries (value_at a c) (value_at b c) of_a.0 of_b.0, known_rows cs a b of_a.1 of_b.1) refl

known_any :
    (cs : List ℕ) (row : List Value) (rows : List (List Value)) → is_known_on cs row ≡ true → list_all (is_known_on cs) rows ≡ true
    → list_any (weak cs row) rows ≡ list_any (strong cs row) rows
known_any cs row [] here known = refl
known_any cs row (other ∷ others) here known =
    let parts = and_parts (is_known_on cs other) (list_all (is_known_on cs) others) known in
    rw (known_rows cs row other here parts.0, known_any cs row others here parts.1) refl

known_pairs : (cs : List ℕ) (rows : List (List Value)) → list_all (is_known_on cs) rows ≡ true → no_pair (weak cs) rows ≡ no_pair (strong cs) rows
known_pairs cs [] known = refl
known_pairs cs (row ∷ rows) known =
    let parts = and_parts (is_known_on cs row) (list_all (is_known_on cs) rows) known in
    rw (known_any cs row rows parts.0 parts.1, known_pairs cs rows parts.1) refl

pub strengthened : (kinds : List Kind) (rows : List (List Value)) (cs : List ℕ) → list_all (is_known_on cs) rows ≡ true → Possible kinds rows cs → Certain kinds rows cs
strengthened kinds rows cs known possible =
    let none = apart_no_strong kinds cs rows possible.0 possible.1 possible.2 in
    λ full done. no_weak_agree kinds cs rows full done (rw (known_pairs cs rows known) none)

-- ---- all three

-- rows that are known on a set are known on each set inside it
known_on_part : (set known : ℕ) (rows : List (List Value)) → IsColumnSet known → is_subset set known ≡ true → all_known known rows ≡ true → all_known set rows ≡ true
known_on_part set known rows is_set inside all = each rows all
  where
    each : (rows : List (List Value)) → all_known known rows ≡ true → all_known set rows ≡ true
    each [] all = refl
    each (row ∷ rows) all =
        let parts = and_parts (is_known_on (columns known) row) (all_known known rows) all in
        rw (
          all_of_part (λ c. not (is_null (value_at row c))) (columns known) (columns set) (subset_among set known is_set inside) parts.0,
          each rows parts.1,
        ) refl

-- a key makes another hold in a table where its columns allow the steps
pub step_holds :
    (kinds : List Kind) (rows : List (List Value)) (known : ℕ) (of to : Sort) (set more : ℕ) → IsColumnSet known → IsColumnSet more
    → all_fit kinds rows ≡ true → all_known known rows ≡ true
    → (is_subset set more && (not (is_certain to) || is_certain of || is_subset set known)) ≡ true
    → HoldsAs of kinds rows (columns set) → HoldsAs to kinds rows (columns more)
step_holds kinds rows known of to set more known_set more_set fit all allowed holds =
    let parts = and_parts (is_subset set more) (not (is_certain to) || is_certain of || is_subset set known) allowed in
    extended kinds rows to (columns more) (columns set) (subset_among set more more_set parts.0) (turned of to parts.1 holds)
  where
    turned :
        (of to : Sort) → (not (is_certain to) || is_certain of || is_subset set known) ≡ true
        → HoldsAs of kinds rows (columns set) → HoldsAs to kinds rows (columns set)
    turned sorts.Certain sorts.Certain allowed holds = holds
    turned sorts.Certain sorts.Possible allowed holds = weakened kinds rows (columns set) fit holds
    turned sorts.Possible sorts.Possible allowed holds = holds
    turned sorts.Possible sorts.Certain allowed holds = strengthened kinds rows (columns set) (known_on_part set known rows known_set allowed all) holds

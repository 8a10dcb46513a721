-- Pairs of rows, and the columns where they differ.
use Rattle.std.proofs.Common.{◌≡◌, refl, sym, subst, ℕ, zero, suc, ◌<◌, Bool, true, false, not, ◌&&◌, ◌||◌, ◌==◌, List, [], ◌∷◌, inl, inr, Some, slice_get, arith}
use Rattle.std.specs.List.{filter, list_all, list_any}
use Rattle.std.proofs.lemmas.Bool.{and_parts, and_from, or_parts, cases_Bool, cases_eq, eq-eqb, ne_eqb, not-true}
use Rattle.pk_values.specs.declared.value.Value.{Value}
use Rattle.pk_values.specs.declared.value.Value.TheVariants.{Null, Integer, Text}
use Rattle.pk_values.specs.Values.{same_value, value_at}
use Rattle.pk_similar.specs.Similarity.{is_among, weak_entries, strong_entries, weak, strong, apart, not_same, no_pair}
use Rattle.pk_values.proofs.ValueOrder.{equal_from_same, same_from_equal}
use Rattle.std.specs.Cmp.{both_ways}
use Rattle.pk_values.proofs.ListLemmas.{all_same}

same_turned : (v w : Value) → same_value v w ≡ same_value w v
same_turned v w =
    both_ways _ _ (λ same. same_from_equal w v (sym (equal_from_same v w same))) (λ same. same_from_equal v w (sym (equal_from_same w v same)))

weak_entries_turned : (v w : Value) → weak_entries v w ≡ weak_entries w v
weak_entries_turned Null Null = refl
weak_entries_turned Null (Integer y) = refl
weak_entries_turned Null (Text ys) = refl
weak_entries_turned (Integer x) Null = refl
weak_entries_turned (Integer x) (Integer y) = same_turned (Integer x) (Integer y)
weak_entries_turned (Integer x) (Text ys) = same_turned (Integer x) (Text ys)
weak_entries_turned (Text xs) Null = refl
weak_entries_turned (Text xs) (Integer y) = same_turned (Text xs) (Integer y)
weak_entries_turned (Text xs) (Text ys) = same_turned (Text xs) (Text ys)

strong_entries_turned : (v w : Value) → strong_entries v w ≡ strong_entries w v
strong_entries_turned Null Null = refl
strong_entries_turned Null (Integer y) = refl
strong_entries_turned Null (Text ys) = refl
strong_entries_turned (Integer x) Null = refl
strong_entries_turned (Integer x) (Integer y) = same_turned (Integer x) (Integer y)
strong_entries_turned (Integer x) (Text ys) = same_turned (Integer x) (Text ys)
strong_entries_turned (Text xs) Null = refl
strong_entries_turned (Text xs) (Integer y) = same_turned (Text xs) (Integer y)
strong_entries_turned (Text xs) (Text ys) = same_turned (Text xs) (Text ys)

pub weak_turned : (a b : List Value) (cs : List ℕ) → weak cs a b ≡ weak cs b a
unfolding weak
weak_turned a b cs = all_same _ _ (λ c. weak_entries_turned (value_at a c) (value_at b c)) cs

pub strong_turned : (a b : List Value) (cs : List ℕ) → strong cs a b ≡ strong cs b a
unfolding strong
strong_turned a b cs = all_same _ _ (λ c. strong_entries_turned (value_at a c) (value_at b c)) cs

strong_entries_weak : (v w : Value) → strong_entries v w ≡ true → weak_entries v w ≡ true
strong_entries_weak Null w similar = refl
strong_entries_weak (Integer x) Null similar = refl
strong_entries_weak (Integer x) (Integer y) similar = similar
strong_entries_weak (Integer x) (Text ys) similar = similar
strong_entries_weak (Text xs) Null similar = refl
strong_entries_weak (Text xs) (Integer y) similar = similar
strong_entries_weak (Text xs) (Text ys) similar = similar

pub strong_weak : (a b : List Value) (cs : List ℕ) → strong cs a b ≡ true → weak cs a b ≡ true
unfolding strong weak
strong_weak a b [] similar = refl
strong_weak a b (c ∷ cs) similar =
    let parts = and_parts (strong_entries (value_at a c) (value_at b c)) (list_all (λ i. strong_entries (value_at a i) (value_at b i)) cs) similar in
    and_from _ _ (strong_entries_weak (value_at a c) (value_at b c) parts.0) (strong_weak a b cs parts.1)

-- a column that isn't among some isn't among those of them that are kept
none_kept : (q : ℕ → Bool) (all : List ℕ) (c : ℕ) → is_among all c ≡ false → is_among (filter q all) c ≡ false
none_kept q [] c none = refl
none_kept q (d ∷ ds) c none =
    let parts = or_parts (d == c) (is_among ds c) none in
    let later = none_kept q ds c parts.1 in
    elim (cases_Bool (q d)) [ inl holds ↦ rw (holds, parts.0, later) refl | inr fails ↦ rw fails later ]

-- a column among some is kept where it passes
kept_among : (q : ℕ → Bool) (all : List ℕ) (c : ℕ) → is_among all c ≡ true → is_among (filter q all) c ≡ q c
kept_among q [] c among = cc
kept_among q (d ∷ ds) c among =
    elim (cases_eq d c) [
      | inl same ↦
          elim (cases_Bool (q d)) [
            | inl holds ↦ rw (holds, eq-eqb d c same) (sym (subst (λ e. q e ≡ true) same holds))
            | inr fails ↦
                elim (cases_Bool (is_among ds c)) [
                  | inl again ↦ rw fails (kept_among q ds c again)
                  | inr once ↦ rw (fails, none_kept q ds c once) (sym (subst (λ e. q e ≡ false) same fails))
                ]
          ]
      | inr other ↦
          let later = kept_among q ds c (subst (λ t. (t || is_among ds c) ≡ true) (ne_eqb d c other) among) in
          elim (cases_Bool (q d)) [ inl holds ↦ rw (holds, ne_eqb d c other) later | inr fails ↦ rw fails later ]
    ]

-- a test passes at all columns exactly where none of them is among those at which it fails
all_meets_none :
    (p : ℕ → Bool) (all cs : List ℕ) → list_all (is_among all) cs ≡ true
    → list_all p cs ≡ not (list_any (is_among (filter (λ c. not (p c)) all)) cs)
all_meets_none p all [] inside = refl
all_meets_none p all (c ∷ cs) inside =
    let parts = and_parts (is_among all c) (list_all (is_among all) cs) inside in
    rw (kept_among (λ k. not (p k)) all c parts.0, all_meets_none p all cs parts.1) (turned (p c) (list_any (is_among (filter (λ k. not (p k)) all)) cs))
  where
    turned : (x y : Bool) → (x && not y) ≡ not (not x || y)
    turned true y = refl
    turned false y = refl

pub weak_meets_none_apart :
    (a b : List Value) (all cs : List ℕ) → list_all (is_among all) cs ≡ true → weak cs a b ≡ not (list_any (is_among (apart all a b)) cs)
unfolding weak apart
weak_meets_none_apart a b all cs inside = all_meets_none (λ c. weak_entries (value_at a c) (value_at b c)) all cs inside

pub strong_meets_none_not_same :
    (a b : List Value) (all cs : List ℕ) → list_all (is_among all) cs ≡ true → strong cs a b ≡ not (list_any (is_among (not_same all a b)) cs)
unfolding strong not_same
strong_meets_none_not_same a b all cs inside = all_meets_none (λ c. strong_entries (value_at a c) (value_at b c)) all cs inside

-- a row that a test fails everywhere fails it at each place
none_at : (p : List Value → Bool) (rows : List (List Value)) → list_any p rows ≡ false → (j : ℕ) (b : List Value) → slice_get rows j ≡ Some b → p b ≡ false
none_at p [] none j b found = cc
none_at p (row ∷ rows) none zero b found =
    let same : row ≡ b = cc in subst (λ r. p r ≡ false) same (or_parts (p row) (list_any p rows) none).0
none_at p (row ∷ rows) none (suc j) b found = none_at p rows (or_parts (p row) (list_any p rows) none).1 j b found

pub no_pair_stands :
    (related : List Value → List Value → Bool) (rows : List (List Value)) → no_pair related rows ≡ true
    → (i j : ℕ) (a b : List Value) → i < j → slice_get rows i ≡ Some a → slice_get rows j ≡ Some b → related a b ≡ false
no_pair_stands related [] none i j a b before first second = cc
no_pair_stands related (row ∷ rows) none i zero a b before first second = absurd (omega (arith, before))
no_pair_stands related (row ∷ rows) none zero (suc j) a b before first second =
    let same : row ≡ a = cc in
    subst (λ r. related r b ≡ false) same
    (none_at (related row) rows (not-true _ (and_parts (not (list_any (related row) rows)) (no_pair related rows) none).0) j b second)
no_pair_stands related (row ∷ rows) none (suc i) (suc j) a b before first second =
    no_pair_stands related rows (and_parts (not (list_any (related row) rows)) (no_pair related rows) none).1 i j a b (omega (arith, before)) first second

-- a row that passes stands at some place
some_at : (p : List Value → Bool) (rows : List (List Value)) → list_any p rows ≡ true → (j : ℕ) × (b : List Value) × (slice_get rows j ≡ Some b) × (p b ≡ true)
some_at p [] some = cc
some_at p (row ∷ rows) some =
    elim (cases_Bool (p row)) [
      | inl passes ↦ (0, row, refl, passes)
      | inr fails ↦ let later = some_at p rows (rw fails at some) in (suc later.0, later.1, later.2, later.3)
    ]

pub pair_is_found :
    (related : List Value → List Value → Bool) (rows : List (List Value)) → no_pair related rows ≡ false
    → (i j : ℕ) × (a b : List Value) × (i < j) × (slice_get rows i ≡ Some a) × (slice_get rows j ≡ Some b) × (related a b ≡ true)
pair_is_found related [] some = cc
pair_is_found related (row ∷ rows) some =
    elim (cases_Bool (list_any (related row) rows)) [
      | inl here ↦ let other = some_at (related row) rows here in (0, suc other.0, row, other.1, omega arith, refl, other.2, other.3)
      | inr none ↦
          let later = pair_is_found related rows (rw none at some) in
          (suc later.0, suc later.1, later.2, later.3, omega (arith, later.4), later.5, later.6, later.7)
    ]

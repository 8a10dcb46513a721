-- Rows and ids that are sought among others.
use Rattle.std.proofs.Common.{◌≡◌, refl, sym, ap, ℕ, zero, suc, ◌-◌, ◌≤◌, ◌<◌, List, [], ◌∷◌, length, get_or, take, drop, Result, Ok, Err, arith}
use Rattle.std.specs.List.Sorted.{IsBinarySearchResult, IsNonDecreasingBy, IsStrictlySortedBy}
use Rattle.std.specs.Ordering.{nat_cmp, ordering_index}
use Rattle.std.specs.Result.{is_err}
use Rattle.std.proofs.lemmas.Bool.{lt-ltb, le-ltb}
use Rattle.std.proofs.lemmas.List.{length-drop, take_all}
use Rattle.pk_values.specs.declared.placed.Placed.{Placed}
use Rattle.pk_guard.specs.Changed.{RowsAscend, stays}
use Rattle.pk_guard.specs.Splits.{below_id, above_id}
use Rattle.pk_guard.proofs.ChangedLemmas.{Above, Ascends, ascends_from, above_lower, all_above, none_below_from}
use Rattle.pk_values.proofs.NumberLemmas.{less_numbers}
use Rattle.pk_values.proofs.SearchLemmas.{equal_numbers, greater_numbers, index_least, among_searched}

-- ---- places of rows that ascend

above_at : (id : ℕ) (rows : List Placed) (i : ℕ) (d : Placed) → Above id rows → i < length rows → id < (get_or rows i d).id
above_at id [] i d above within = absurd (omega (arith, within))
above_at id (q ∷ qs) zero d above within = above.0
above_at id (q ∷ qs) (suc i) d above within = above_at id qs i d above.1 (omega (arith, within))

ids_rise : (rows : List Placed) (i j : ℕ) (d : Placed) → Ascends rows → i ≤ j → j < length rows → (get_or rows i d).id ≤ (get_or rows j d).id
ids_rise [] i j d ascend le within = absurd (omega (arith, within))
ids_rise (q ∷ qs) zero zero d ascend le within = omega arith
ids_rise (q ∷ qs) zero (suc j) d ascend le within = (let above = above_at q.id qs j d ascend.0 (omega (arith, within)) in omega (arith, above))
ids_rise (q ∷ qs) (suc i) zero d ascend le within = absurd (omega (arith, le))
ids_rise (q ∷ qs) (suc i) (suc j) d ascend le within = ids_rise qs i j d ascend.1 (omega (arith, le)) (omega (arith, within))

comparisons_rise : (id : ℕ) (rows : List Placed) → Ascends rows → IsNonDecreasingBy (λ (p : Placed). ordering_index (nat_cmp p.id id)) rows
comparisons_rise id rows ascend i j d le within = index_least (get_or rows i d).id (get_or rows j d).id id (ids_rise rows i j d ascend le within)

-- ---- rows on both sides of an id

cut_at : (id : ℕ) (rows : List Placed) (i : ℕ) (d : Placed) → Ascends rows → i < length rows → (get_or rows i d).id ≡ id
    → (take i rows ≡ below_id id rows) × (drop (suc i) rows ≡ above_id id rows)
cut_at id [] i d ascend within same = absurd (omega (arith, within))
cut_at id (q ∷ qs) zero d ascend within same = (
  sym (none_below_from id q qs (omega (arith, same)) ascend),
  rw (le-ltb id q.id (omega (arith, same))) (sym (all_above id qs (above_lower id q.id qs (omega (arith, same)) ascend.0))),
)
cut_at id (q ∷ qs) (suc i) d ascend within same =
    let above = above_at q.id qs i d ascend.0 (omega (arith, within)) in
    let low : q.id < id = omega (arith, above, same) in
    let rest = cut_at id qs i d ascend.1 (omega (arith, within)) same in
    (rw (lt-ltb q.id id low) (ap (λ (more : List Placed). q ∷ more) rest.0), rw (le-ltb id q.id (omega (arith, low))) rest.1)

cut_between : (id : ℕ) (rows : List Placed) (i : ℕ) → i ≤ length rows → ((k : ℕ) (d : Placed) → k < i → (get_or rows k d).id < id)
    → ((k : ℕ) (d : Placed) → i ≤ k → k < length rows → id < (get_or rows k d).id) → (take i rows ≡ below_id id rows) × (drop i rows ≡ above_id id rows)
cut_between id [] zero within lows highs = (refl, refl)
cut_between id [] (suc i) within lows highs = absurd (omega (arith, within))
cut_between id (q ∷ qs) zero within lows highs =
    let high = highs 0 q (omega arith) (omega arith) in
    let rest = cut_between id qs zero (omega arith) (λ k d below. absurd (omega (arith, below))) (λ k d from below. highs (suc k) d (omega arith) (omega (arith, below))) in
    (rw (le-ltb q.id id (omega (arith, high))) rest.0, rw (lt-ltb id q.id high) (ap (λ (more : List Placed). q ∷ more) rest.1))
cut_between id (q ∷ qs) (suc i) within lows highs =
    let low = lows 0 q (omega arith) in
    let rest = cut_between id qs i (omega (arith, within)) (λ k d below. lows (suc k) d (omega (arith, below))) (λ k d from below. highs (suc k) d (omega (arith, from)) (omega (arith, below))) in
    (rw (lt-ltb q.id id low) (ap (λ (more : List Placed). q ∷ more) rest.0), rw (le-ltb id q.id (omega (arith, low))) rest.1)

no_row : Placed
no_row = record { id = 0; row = [] }

-- where a search finds the id
pub split_found : (rows : List Placed) (id place : ℕ) (r : Result ℕ ℕ) → RowsAscend rows → place < length rows
    → IsBinarySearchResult (λ (p : Placed). nat_cmp p.id id) rows r → r ≡ Ok place
    → (take place rows ≡ below_id id rows) × (drop (suc place) rows ≡ above_id id rows)
split_found rows id place (Ok i) ascend within is found =
    let same : i ≡ place = cc in
    cut_at id rows place no_row (ascends_from rows ascend) within (rw (← same) (equal_numbers (get_or rows i no_row).id id (is no_row)))
split_found rows id place (Err i) ascend within is found = absurd cc

-- and where it finds a place for it
pub split_missed : (rows : List Placed) (id place : ℕ) (r : Result ℕ ℕ) → RowsAscend rows → place ≤ length rows
    → IsBinarySearchResult (λ (p : Placed). nat_cmp p.id id) rows r → r ≡ Err place
    → (take place rows ≡ below_id id rows) × (drop place rows ≡ above_id id rows)
split_missed rows id place (Ok i) ascend within is missed = absurd cc
split_missed rows id place (Err i) ascend within is missed =
    let same : i ≡ place = cc in
    let w = is (comparisons_rise id rows (ascends_from rows ascend)) in
    cut_between id rows place within (λ k d below. less_numbers (get_or rows k d).id id (w.0 k d (omega arith) (omega (arith, same, below))))
    (λ k d from below. greater_numbers (get_or rows k d).id id (w.1 k d (omega (arith, same, from)) below))

-- ---- an id among others

pub stays_searched : (ids : List ℕ) (p : Placed) (r : Result ℕ ℕ) → IsBinarySearchResult (λ k. nat_cmp k p.id) ids r → IsStrictlySortedBy nat_cmp ids
    → is_err r ≡ stays ids p
stays_searched ids p (Ok i) is ascend = rw (sym (among_searched ids p.id (Ok i) is ascend)) refl
stays_searched ids p (Err i) is ascend = rw (sym (among_searched ids p.id (Err i) is ascend)) refl

-- ---- what is left of a slice

pub rest_of : (n : ℕ) (rows : List Placed) → take (length rows - n) (drop n rows) ≡ drop n rows
rest_of n rows = take_all _ _ (rw (length-drop n rows) (omega arith))

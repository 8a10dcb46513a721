-- What a search by halves finds among records by ascending places.
use Rattle.std.proofs.Common.{◌≡◌, refl, sym, ap, ℕ, zero, suc, ◌+◌, ◌≤◌, ◌<◌, Bool, true, false, List, [], ◌∷◌, ◌++◌, length, get_or, take, drop, map, Some, None, Result, Ok, Err, if◌then◌else◌, inl, inr, arith, ◌↔◌}
use Rattle.std.specs.List.{AllByRecursion, IsAllAdjacentAnswer}
use Rattle.std.specs.List.Sorted.{IsBinarySearchResult, IsNonDecreasingBy, IsPartitionedBy, IsPartitionPoint}
use Rattle.std.specs.Ordering.{is_lt, is_eq, is_gt, ordering_index}
use Rattle.std.specs.declared.cmp.Ordering.{Ordering}
use Rattle.std.specs.declared.cmp.Ordering.TheVariants.{Less, Equal, Greater}
use Rattle.std.proofs.lemmas.Bool.{cases_lt}
use Rattle.std.proofs.lemmas.List.{length-map, get_or-map}
use Rattle.std.proofs.lemmas.Map.Keys.{Less-from_sorted, sorted_from_all_adjacent}
use Rattle.pk_rows.specs.declared.place.Place.{Place}
use Rattle.pk_rows.specs.declared.stored.Stored.{Stored}
use Rattle.pk_rows.specs.Maps.{place_cmp}
use Rattle.pk_sheet.specs.Sheets.{PlacesAscend, record_at, below, above}
use Rattle.pk_sheet.proofs.PlaceOrder.{place_total}
use Rattle.pk_sheet.proofs.ByPlace.{AreAll, first_below, rest_ascends, above_from_tied, above_from_greater, parted}

pub no_record : Stored
no_record = record { place = record { table = 0; id = 0 }; bytes = [] }

-- what holds of all records holds at each place of the list
at : (P : Stored → Type 0) (xs : List Stored) (i : ℕ) (d : Stored) → AllByRecursion P xs → i < length xs → P (get_or xs i d)
at P [] i d all within = absurd (omega (arith, within))
at P (x ∷ xs) zero d all within = all.0
at P (x ∷ xs) (suc i) d all within = at P xs i d all.1 (omega (arith, within))

-- ---- comparisons with one place rise

-- behind a record that isn't below the place all are above it
later : (p : Place) (x : Stored) (xs : List Stored) (o : Ordering) → place_cmp x.place p ≡ o → PlacesAscend (x ∷ xs) → (j : ℕ) (d : Stored) → j < length xs
    → ordering_index o ≤ ordering_index (place_cmp (get_or xs j d).place p)
later p x xs Less is ascend j d within = omega arith
later p x xs Equal is ascend j d within =
    rw (at (λ (s : Stored). place_cmp s.place p ≡ Greater) xs j d (above_from_tied p x xs is (first_below x xs ascend)) within) (omega arith)
later p x xs Greater is ascend j d within =
    rw (at (λ (s : Stored). place_cmp s.place p ≡ Greater) xs j d (above_from_greater p x xs is (first_below x xs ascend)) within) (omega arith)

pub comparisons_rise : (p : Place) (xs : List Stored) → PlacesAscend xs → IsNonDecreasingBy (λ (s : Stored). ordering_index (place_cmp s.place p)) xs
comparisons_rise p [] ascend i j d le within = absurd (omega (arith, within))
comparisons_rise p (x ∷ xs) ascend zero zero d le within = omega arith
comparisons_rise p (x ∷ xs) ascend zero (suc j) d le within = later p x xs (place_cmp x.place p) refl ascend j d (omega (arith, within))
comparisons_rise p (x ∷ xs) ascend (suc i) zero d le within = absurd (omega (arith, le))
comparisons_rise p (x ∷ xs) ascend (suc i) (suc j) d le within = comparisons_rise p xs (rest_ascends x xs ascend) i j d (omega (arith, le)) (omega (arith, within))

less_first : (o q : Ordering) → ordering_index o ≤ ordering_index q → is_lt q ≡ true → is_lt o ≡ true
less_first Less q le less = refl
less_first Equal Less le less = absurd (omega (arith, le))
less_first Equal Equal le less = less
less_first Equal Greater le less = absurd cc
less_first Greater Less le less = absurd (omega (arith, le))
less_first Greater Equal le less = absurd cc
less_first Greater Greater le less = less

-- those below the place come first
pub below_first : (p : Place) (xs : List Stored) → PlacesAscend xs → IsPartitionedBy (λ (s : Stored). is_lt (place_cmp s.place p)) xs
below_first p xs ascend i j d le within less = less_first _ _ (comparisons_rise p xs ascend i j d le within) less

-- ---- the list is cut there

pub cut_between : (p : Place) (xs : List Stored) (i : ℕ) → i ≤ length xs → ((k : ℕ) (d : Stored) → k < i → place_cmp (get_or xs k d).place p ≡ Less)
    → ((k : ℕ) (d : Stored) → i ≤ k → k < length xs → place_cmp (get_or xs k d).place p ≡ Greater) → (take i xs ≡ below p xs) × (drop i xs ≡ above p xs)
cut_between p [] zero within low high = (refl, refl)
cut_between p [] (suc i) within low high = absurd (omega (arith, within))
cut_between p (x ∷ xs) zero within low high =
    let here = high 0 x (omega arith) (omega arith) in
    let rest = cut_between p xs zero (omega arith) (λ k d before. absurd (omega (arith, before))) (λ k d from inside. high (suc k) d (omega arith) (omega (arith, inside))) in
    (rw here rest.0, rw here (ap (λ (ys : List Stored). x ∷ ys) rest.1))
cut_between p (x ∷ xs) (suc i) within low high =
    let here = low 0 x (omega arith) in
    let rest = cut_between p xs i (omega (arith, within)) (λ k d before. low (suc k) d (omega (arith, before)))
    (λ k d from inside. high (suc k) d (omega (arith, from)) (omega (arith, inside))) in
    (rw here (ap (λ (ys : List Stored). x ∷ ys) rest.0), rw here rest.1)

all_high : (p : Place) (xs : List Stored) → AreAll Greater p xs → ([] ≡ below p xs) × (xs ≡ above p xs)
all_high p [] all = (refl, refl)
all_high p (x ∷ xs) all = let rest = all_high p xs all.1 in (rw all.0 rest.0, rw all.0 (ap (λ (ys : List Stored). x ∷ ys) rest.1))

-- where one at the place was found
pub cut_at : (p : Place) (xs : List Stored) (i : ℕ) (d : Stored) → PlacesAscend xs → i < length xs → place_cmp (get_or xs i d).place p ≡ Equal
    → (take i xs ≡ below p xs) × (drop (suc i) xs ≡ above p xs) × (record_at p xs ≡ Some (get_or xs i d))
cut_at p [] i d ascend within tied = absurd (omega (arith, within))
cut_at p (x ∷ xs) zero d ascend within tied =
    let rest = all_high p xs (above_from_tied p x xs tied (first_below x xs ascend)) in
    (rw tied rest.0, rw tied rest.1, rw tied refl)
cut_at p (x ∷ xs) (suc i) d ascend within tied = by (place_cmp x.place p) refl (cut_at p xs i d (rest_ascends x xs ascend) (omega (arith, within)) tied)
  where
    by : (o : Ordering) → place_cmp x.place p ≡ o → (take i xs ≡ below p xs) × (drop (suc i) xs ≡ above p xs) × (record_at p xs ≡ Some (get_or xs i d))
        → (x ∷ take i xs ≡ if is_lt o then x ∷ below p xs else below p xs) × (drop (suc i) xs ≡ if is_gt o then x ∷ above p xs else above p xs)
        × ((if is_eq o then Some x else record_at p xs) ≡ Some (get_or xs i d))
    by Less is rest =
        (ap (λ (ys : List Stored). x ∷ ys) rest.0, rest.1, rest.2)
    by Equal is rest = absurd (let high = at (λ (s : Stored). place_cmp s.place p ≡ Greater) xs i d (above_from_tied p x xs is (first_below x xs ascend)) (omega (arith, within)) in cc)
    by Greater is rest = absurd (let high = at (λ (s : Stored). place_cmp s.place p ≡ Greater) xs i d (above_from_greater p x xs is (first_below x xs ascend)) (omega (arith, within)) in cc)

-- where none is at the place
none_tied : (p : Place) (xs : List Stored) (i : ℕ) (d : Stored) → record_at p xs ≡ None → i < length xs → place_cmp (get_or xs i d).place p ≡ Equal → ⊥
none_tied p [] i d none within tied = absurd (omega (arith, within))
none_tied p (x ∷ xs) zero d none within tied = let some : record_at p (x ∷ xs) ≡ Some x = rw tied refl in cc
none_tied p (x ∷ xs) (suc i) d none within tied = by (place_cmp x.place p) none (λ rest. none_tied p xs i d rest (omega (arith, within)) tied)
  where
    by : (o : Ordering) → (if is_eq o then Some x else record_at p xs) ≡ None → (record_at p xs ≡ None → ⊥) → ⊥
    by Less none rest = rest none
    by Equal none rest = cc
    by Greater none rest = rest none

-- ---- as searches say it

greater : (o : Ordering) → is_lt o ≡ false → (o ≡ Equal → ⊥) → o ≡ Greater
greater Less not_less not_tied = absurd cc
greater Equal not_less not_tied = absurd (not_tied refl)
greater Greater not_less not_tied = refl

less : (o : Ordering) → is_lt o ≡ true → o ≡ Less
less Less is = refl
less Equal is = absurd cc
less Greater is = absurd cc

-- the place before which all are below
pub point_cuts : (p : Place) (xs : List Stored) (i : ℕ) → record_at p xs ≡ None → i ≤ length xs
    → IsPartitionPoint (λ (s : Stored). is_lt (place_cmp s.place p) ≡ true) (λ (s : Stored). is_lt (place_cmp s.place p) ≡ false) xs i
    → (take i xs ≡ below p xs) × (drop i xs ≡ above p xs)
point_cuts p xs i none within point =
    cut_between p xs i within (λ k d before. less _ (point.0 k d (omega arith) before))
    (λ k d from inside. greater _ (point.1 k d from inside) (λ tied. none_tied p xs k d none inside tied))

-- what a search finds
pub search_found : (p : Place) (xs : List Stored) (i : ℕ) (r : Result ℕ ℕ) → PlacesAscend xs → i < length xs
    → IsBinarySearchResult (λ (s : Stored). place_cmp s.place p) xs r → r ≡ Ok i
    → (take i xs ≡ below p xs) × (drop (suc i) xs ≡ above p xs) × (record_at p xs ≡ Some (get_or xs i no_record))
search_found p xs i (Ok j) ascend within is found =
    let same : j ≡ i = cc in
    cut_at p xs i no_record ascend within (rw (← same) (is no_record))
search_found p xs i (Err j) ascend within is found = absurd cc

none_from_parts : (p : Place) (xs : List Stored) → ((k : ℕ) (d : Stored) → k < length xs → place_cmp (get_or xs k d).place p ≡ Equal → ⊥) → record_at p xs ≡ None
none_from_parts p [] none = refl
none_from_parts p (x ∷ xs) none = by (place_cmp x.place p) refl (none_from_parts p xs (λ k d within. none (suc k) d (omega (arith, within))))
  where
    by : (o : Ordering) → place_cmp x.place p ≡ o → record_at p xs ≡ None → (if is_eq o then Some x else record_at p xs) ≡ None
    by Less is rest = rest
    by Equal is rest = absurd (none 0 x (omega arith) is)
    by Greater is rest = rest

-- and where it finds none
pub search_missed : (p : Place) (xs : List Stored) (i : ℕ) (r : Result ℕ ℕ) → PlacesAscend xs → i ≤ length xs
    → IsBinarySearchResult (λ (s : Stored). place_cmp s.place p) xs r → r ≡ Err i → (record_at p xs ≡ None) × (xs ≡ below p xs ++ above p xs)
search_missed p xs i (Ok j) ascend within is missed = absurd cc
search_missed p xs i (Err j) ascend within is missed =
    let same : j ≡ i = cc in
    let w = is (comparisons_rise p xs ascend) in
    let none = none_from_parts p xs (λ k d inside tied. apart k d inside tied j w.0 w.1) in
    (none, parted p xs ascend none)
  where
    apart : (k : ℕ) (d : Stored) → k < length xs → place_cmp (get_or xs k d).place p ≡ Equal → (j : ℕ)
        → ((m : ℕ) (e : Stored) → 0 ≤ m → m < j → place_cmp (get_or xs m e).place p ≡ Less)
        → ((m : ℕ) (e : Stored) → j ≤ m → m < length xs → place_cmp (get_or xs m e).place p ≡ Greater) → ⊥
    apart k d inside tied j low high = elim (cases_lt k j) as (λ _. ⊥) [
      | inl before ↦ (let is = low k d (omega arith) before in cc)
      | inr from ↦ (let is = high k d from inside in cc)
    ]

-- ---- whether places ascend

abbrev keys : List Stored → List Place
keys xs = map (λ (s : Stored). s.place) xs

below_in : Stored → Stored → Bool
below_in x y = is_lt (place_cmp x.place y.place)

-- places that each are below the next ascend, and where one isn't they don't
pub ascend_answer : (xs : List Stored) (b : Bool) → IsAllAdjacentAnswer (λ (x y : Stored) (r : Bool). r ≡ is_lt (place_cmp x.place y.place)) xs b → (b ≡ true) ↔ PlacesAscend xs
ascend_answer xs true answer = (
  λ _. sorted_from_all_adjacent place_total (keys xs) no_record.place
      (λ k within.
      let inside : k + 1 < length xs = omega (arith, within, length-map xs (λ (s : Stored). s.place)) in
      rw (get_or-map (λ (s : Stored). s.place) xs k no_record no_record.place (omega (arith, inside)), get_or-map (λ (s : Stored). s.place) xs (k + 1) no_record no_record.place inside)
      (less _ (sym (answer k no_record inside)))),
  λ _. refl,
)
ascend_answer xs false answer = (
  λ is. absurd cc,
  λ ascend.
      let k = answer.0 in
      let inside = answer.1 in
      let far = Less-from_sorted place_cmp (keys xs) k (k + 1) no_record.place ascend (omega arith) (omega (arith, inside, length-map xs (λ (s : Stored). s.place))) in
      let near : place_cmp (get_or xs k no_record).place (get_or xs (k + 1) no_record).place ≡ Less =
      rw (get_or-map (λ (s : Stored). s.place) xs k no_record no_record.place (omega (arith, inside)), get_or-map (λ (s : Stored). s.place) xs (k + 1) no_record no_record.place inside) at far in
      absurd (let not_so = answer.2 no_record in cc),
)

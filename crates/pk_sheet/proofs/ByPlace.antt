-- Records by ascending places, below a place, at it and above it.
use Rattle.std.proofs.Common.{◌≡◌, refl, sym, ◌∙◌, ap, Bool, true, false, cond, List, [], ◌∷◌, ◌++◌, map, filter, Some, None}
use Rattle.std.specs.List.{AllByRecursion}
use Rattle.std.specs.List.Sorted.{IsStrictlySortedBy}
use Rattle.std.specs.Ordering.{is_lt, is_eq, is_gt}
use Rattle.std.specs.declared.cmp.Ordering.{Ordering}
use Rattle.std.specs.declared.cmp.Ordering.TheVariants.{Less, Equal, Greater}
use Rattle.pk_rows.specs.declared.place.Place.{Place}
use Rattle.pk_rows.specs.declared.stored.Stored.{Stored}
use Rattle.pk_rows.specs.Maps.{place_cmp}
use Rattle.pk_sheet.specs.Sheets.{PlacesAscend, record_at, below, above}
use Rattle.pk_sheet.proofs.PlaceOrder.{place_exact, turned, above_tied, above_greater, across}

-- ---- all of some records

-- how each of the records compares with a place
abbrev pub AreAll : Ordering → Place → List Stored → Type 0
AreAll o p stored = AllByRecursion (λ (s : Stored). place_cmp s.place p ≡ o) stored

-- all are above a record
abbrev pub AreBehind : Stored → List Stored → Type 0
AreBehind x stored = AllByRecursion (λ (s : Stored). place_cmp x.place s.place ≡ Less) stored

behind_from : (x : Stored) (xs : List Stored) → AllByRecursion (λ p. place_cmp x.place p ≡ Less) (map (λ (s : Stored). s.place) xs) → AreBehind x xs
behind_from x [] all = tt
behind_from x (y ∷ ys) all = (all.0, behind_from x ys all.1)

behind_to : (x : Stored) (xs : List Stored) → AreBehind x xs → AllByRecursion (λ p. place_cmp x.place p ≡ Less) (map (λ (s : Stored). s.place) xs)
behind_to x [] all = tt
behind_to x (y ∷ ys) all = (all.0, behind_to x ys all.1)

pub first_below : (x : Stored) (xs : List Stored) → PlacesAscend (x ∷ xs) → AreBehind x xs
unfolding IsStrictlySortedBy
first_below x xs ascend = behind_from x xs ascend.0

pub rest_ascends : (x : Stored) (xs : List Stored) → PlacesAscend (x ∷ xs) → PlacesAscend xs
unfolding IsStrictlySortedBy
rest_ascends x xs ascend = ascend.1

pub none_ascend : PlacesAscend []
unfolding IsStrictlySortedBy
none_ascend = tt

pub ascend_with : (x : Stored) (xs : List Stored) → AreBehind x xs → PlacesAscend xs → PlacesAscend (x ∷ xs)
unfolding IsStrictlySortedBy
ascend_with x xs behind ascend = (behind_to x xs behind, ascend)

-- those behind a record that isn't below a place are above it
pub above_from_tied : (p : Place) (x : Stored) (xs : List Stored) → place_cmp x.place p ≡ Equal → AreBehind x xs → AreAll Greater p xs
above_from_tied p x [] tied behind = tt
above_from_tied p x (y ∷ ys) tied behind = (above_tied x.place y.place p behind.0 tied, above_from_tied p x ys tied behind.1)

pub above_from_greater : (p : Place) (x : Stored) (xs : List Stored) → place_cmp x.place p ≡ Greater → AreBehind x xs → AreAll Greater p xs
above_from_greater p x [] greater behind = tt
above_from_greater p x (y ∷ ys) greater behind = (above_greater x.place y.place p behind.0 greater, above_from_greater p x ys greater behind.1)

-- ---- what filters keep

pub below_is : (p : Place) (xs : List Stored) → AreAll Less p (below p xs)
below_is p [] = tt
below_is p (x ∷ xs) = by (place_cmp x.place p) refl (below_is p xs)
  where
    by : (o : Ordering) → place_cmp x.place p ≡ o → AreAll Less p (below p xs) → AreAll Less p (cond (is_lt o) (x ∷ below p xs) (below p xs))
    by Less is rest = (is, rest)
    by Equal is rest = rest
    by Greater is rest = rest

pub above_is : (p : Place) (xs : List Stored) → AreAll Greater p (above p xs)
above_is p [] = tt
above_is p (x ∷ xs) = by (place_cmp x.place p) refl (above_is p xs)
  where
    by : (o : Ordering) → place_cmp x.place p ≡ o → AreAll Greater p (above p xs) → AreAll Greater p (cond (is_gt o) (x ∷ above p xs) (above p xs))
    by Less is rest = rest
    by Equal is rest = rest
    by Greater is rest = (is, rest)

-- ---- one list in three parts

-- all are above
all_above : (p : Place) (xs : List Stored) → AreAll Greater p xs → (below p xs ≡ []) × (above p xs ≡ xs) × (record_at p xs ≡ None)
all_above p [] all = (refl, refl, refl)
all_above p (x ∷ xs) all =
    let rest = all_above p xs all.1 in
    (rw all.0 rest.0, rw all.0 (ap (λ (ys : List Stored). x ∷ ys) rest.1), rw all.0 rest.2)

-- where no record is at the place, they are those below and those above
pub parted : (p : Place) (xs : List Stored) → PlacesAscend xs → record_at p xs ≡ None → xs ≡ below p xs ++ above p xs
parted p [] ascend none = refl
parted p (x ∷ xs) ascend none = by (place_cmp x.place p) refl none (parted p xs (rest_ascends x xs ascend))
  where
    by : (o : Ordering) → place_cmp x.place p ≡ o → cond (is_eq o) (Some x) (record_at p xs) ≡ None → (record_at p xs ≡ None → xs ≡ below p xs ++ above p xs)
        → x ∷ xs ≡ cond (is_lt o) (x ∷ below p xs) (below p xs) ++ cond (is_gt o) (x ∷ above p xs) (above p xs)
    by Less is none rest = ap (λ (ys : List Stored). x ∷ ys) (rest none)
    by Equal is none rest = absurd cc
    by Greater is none rest =
        let all = all_above p xs (above_from_greater p x xs is (first_below x xs ascend)) in
        rw (all.0, all.1) refl

-- where one is, it stands between them
pub parted_at : (p : Place) (xs : List Stored) (s : Stored) → PlacesAscend xs → record_at p xs ≡ Some s → (s.place ≡ p) × (xs ≡ below p xs ++ (s ∷ above p xs))
parted_at p [] s ascend some = absurd cc
parted_at p (x ∷ xs) s ascend some = by (place_cmp x.place p) refl some (parted_at p xs s (rest_ascends x xs ascend))
  where
    by : (o : Ordering) → place_cmp x.place p ≡ o → cond (is_eq o) (Some x) (record_at p xs) ≡ Some s
        → (record_at p xs ≡ Some s → (s.place ≡ p) × (xs ≡ below p xs ++ (s ∷ above p xs)))
        → (s.place ≡ p) × (x ∷ xs ≡ cond (is_lt o) (x ∷ below p xs) (below p xs) ++ (s ∷ cond (is_gt o) (x ∷ above p xs) (above p xs)))
    by Less is some rest = ((rest some).0, ap (λ (ys : List Stored). x ∷ ys) (rest some).1)
    by Equal is some rest =
        let same : x ≡ s = cc in
        let all = all_above p xs (above_from_tied p x xs is (first_below x xs ascend)) in
        (ap (λ (y : Stored). y.place) (sym same) ∙ place_exact x.place p is, rw (all.0, all.1) (ap (λ (y : Stored). y ∷ xs) same))
    by Greater is some rest =
        let all = all_above p xs (above_from_greater p x xs is (first_below x xs ascend)) in
        absurd (let none = all.2 in cc)

-- ---- joined again

-- what holds of all of a list holds of what a filter keeps of it
pub all_kept : (P : Stored → Type 0) (test : Stored → Bool) (xs : List Stored) → AllByRecursion P xs → AllByRecursion P (filter test xs)
all_kept P test [] all = tt
all_kept P test (x ∷ xs) all = by (test x) (all_kept P test xs all.1)
  where
    by : (b : Bool) → AllByRecursion P (filter test xs) → AllByRecursion P (cond b (x ∷ filter test xs) (filter test xs))
    by true rest = (all.0, rest)
    by false rest = rest

pub all_joined : (P : Stored → Type 0) (xs ys : List Stored) → AllByRecursion P xs → AllByRecursion P ys → AllByRecursion P (xs ++ ys)
all_joined P [] ys all more = more
all_joined P (x ∷ xs) ys all more = (all.0, all_joined P xs ys all.1 more)

ascend_kept : (test : Stored → Bool) (xs : List Stored) → PlacesAscend xs → PlacesAscend (filter test xs)
ascend_kept test [] ascend = none_ascend
ascend_kept test (x ∷ xs) ascend = by (test x) (ascend_kept test xs (rest_ascends x xs ascend))
  where
    by : (b : Bool) → PlacesAscend (filter test xs) → PlacesAscend (cond b (x ∷ filter test xs) (filter test xs))
    by true rest = ascend_with x (filter test xs) (all_kept (λ (s : Stored). place_cmp x.place s.place ≡ Less) test xs (first_below x xs ascend)) rest
    by false rest = rest

-- all of the second are behind one that is below the place
behind_across : (p : Place) (x : Stored) (ys : List Stored) → place_cmp x.place p ≡ Less → AreAll Greater p ys → AreBehind x ys
behind_across p x [] low high = tt
behind_across p x (y ∷ ys) low high = (across x.place y.place p low high.0, behind_across p x ys low high.1)

joined_ascend : (p : Place) (xs ys : List Stored) → PlacesAscend xs → AreAll Less p xs → PlacesAscend ys → AreAll Greater p ys → PlacesAscend (xs ++ ys)
joined_ascend p [] ys ascend low more high = more
joined_ascend p (x ∷ xs) ys ascend low more high =
    ascend_with x (xs ++ ys) (all_joined (λ (s : Stored). place_cmp x.place s.place ≡ Less) xs ys (first_below x xs ascend) (behind_across p x ys low.0 high))
    (joined_ascend p xs ys (rest_ascends x xs ascend) low.1 more high)

-- the same with a record at the place between them
between_ascend : (s : Stored) (xs ys : List Stored) → PlacesAscend xs → AreAll Less s.place xs → AreBehind s ys → AreAll Greater s.place ys → PlacesAscend ys
    → PlacesAscend (xs ++ (s ∷ ys))
between_ascend s [] ys ascend low behind high more = ascend_with s ys behind more
between_ascend s (x ∷ xs) ys ascend low behind high more =
    ascend_with x (xs ++ (s ∷ ys))
    (all_joined (λ (t : Stored). place_cmp x.place t.place ≡ Less) xs (s ∷ ys) (first_below x xs ascend) (low.0, behind_across s.place x ys low.0 high))
    (between_ascend s xs ys (rest_ascends x xs ascend) low.1 behind high more)

behind_high : (s : Stored) (ys : List Stored) → AreAll Greater s.place ys → AreBehind s ys
behind_high s [] high = tt
behind_high s (y ∷ ys) high = (turned y.place s.place Greater high.0, behind_high s ys high.1)

pub with_ascends : (s : Stored) (xs : List Stored) → PlacesAscend xs → PlacesAscend (below s.place xs ++ (s ∷ above s.place xs))
with_ascends s xs ascend =
    between_ascend s (below s.place xs) (above s.place xs) (ascend_kept _ xs ascend) (below_is s.place xs) (behind_high s (above s.place xs) (above_is s.place xs))
    (above_is s.place xs) (ascend_kept _ xs ascend)

pub without_ascends : (p : Place) (xs : List Stored) → PlacesAscend xs → PlacesAscend (below p xs ++ above p xs)
without_ascends p xs ascend = joined_ascend p (below p xs) (above p xs) (ascend_kept _ xs ascend) (below_is p xs) (ascend_kept _ xs ascend) (above_is p xs)

-- Sheets with a record more or less.
use Rattle.std.proofs.Common.{◌≡◌, refl, sym, ◌∙◌, ap, subst, ℕ, ◌+◌, ◌-◌, ◌≤◌, List, [], ◌∷◌, ◌++◌, sum_by, Option, Some, None, IfSome, arith}
use Rattle.std.specs.List.Sorted.{IsStrictlySortedBy}
use Rattle.std.specs.declared.cmp.Ordering.TheVariants.{Less, Greater}
use Rattle.std.proofs.lemmas.List.Elements.{All-from_recursion, recursion_from_All}
use Rattle.std.proofs.lemmas.List.Sums.{sum_by-append, sum_by-cons}
use Rattle.pk_rows.specs.declared.place.Place.{Place}
use Rattle.pk_rows.specs.declared.stored.Stored.{Stored}
use Rattle.pk_sheet.specs.Sheets.{IsPlace, IsSheet, LeavesRoom, PlacesAscend, size_of, room_of, record_at, below, above, with_record, without_place}
use Rattle.pk_sheet.specs.Laws.{IsFuller, ChangedSheets}
use Rattle.pk_sheet.proofs.ByPlace.{AreAll, below_is, above_is, parted, parted_at, all_kept, all_joined, with_ascends, without_ascends}

-- ---- sizes

-- what two lists and a record between them take
split_size : (xs ys : List Stored) (s : Stored) → sum_by size_of (xs ++ (s ∷ ys)) ≡ sum_by size_of (xs ++ ys) + size_of s
split_size xs ys s =
    let with_it = sum_by-append size_of xs (s ∷ ys) in
    let first = sum_by-cons size_of s ys in
    let without_it = sum_by-append size_of xs ys in
    omega arith

pub with_size : (s : Stored) (xs : List Stored) → PlacesAscend xs → record_at s.place xs ≡ None → sum_by size_of (with_record s xs) ≡ sum_by size_of xs + size_of s
with_size s xs ascend none =
    split_size (below s.place xs) (above s.place xs) s ∙ ap (λ (ys : List Stored). sum_by size_of ys + size_of s) (sym (parted s.place xs ascend none))

pub without_size : (p : Place) (xs : List Stored) (s : Stored) → PlacesAscend xs → record_at p xs ≡ Some s → sum_by size_of xs ≡ sum_by size_of (without_place p xs) + size_of s
without_size p xs s ascend some = ap (sum_by size_of) (parted_at p xs s ascend some).1 ∙ split_size (below p xs) (above p xs) s

pub without_none : (p : Place) (xs : List Stored) → PlacesAscend xs → record_at p xs ≡ None → without_place p xs ≡ xs
without_none p xs ascend none = sym (parted p xs ascend none)

-- ---- sheets

abbrev HasPlace : Stored → Type 0
HasPlace s = IsPlace s.place

pub with_sheet : (xs : List Stored) (s : Stored) → IsSheet xs → IsPlace s.place → record_at s.place xs ≡ None → size_of s ≤ room_of xs → IsFuller xs s
with_sheet xs s is place none size =
    let all = recursion_from_All HasPlace xs is.places in
    let sum = with_size s xs is.ascend none in
    let fits = is.fits in
    record {
      sheet = record {
        ascend = with_ascends s xs is.ascend;
        places = All-from_recursion HasPlace (with_record s xs) (all_joined HasPlace (below s.place xs) (s ∷ above s.place xs) (all_kept HasPlace _ xs all) (place, all_kept HasPlace _ xs all));
        fits = omega (arith, sum, fits, size);
      };
      room = omega (arith, sum, fits, size);
    }

pub without_sheet : (xs : List Stored) (p : Place) → IsSheet xs → IsSheet (without_place p xs)
without_sheet xs p is =
    let all = recursion_from_All HasPlace xs is.places in
    record {
      ascend = without_ascends p xs is.ascend;
      places = All-from_recursion HasPlace (without_place p xs) (all_joined HasPlace (below p xs) (above p xs) (all_kept HasPlace _ xs all) (all_kept HasPlace _ xs all));
      fits = by (record_at p xs) refl;
    }
  where
    by : (o : Option Stored) → record_at p xs ≡ o → sum_by size_of (without_place p xs) ≤ 4094
    by None none = subst (λ (ys : List Stored). sum_by size_of ys ≤ 4094) (sym (without_none p xs is.ascend none)) is.fits
    by (Some s) some = let sum = without_size p xs s is.ascend some in let fits = is.fits in omega (arith, sum, fits)

pub regained_room : (xs : List Stored) (p : Place) (s : Stored) → IsSheet xs → record_at p xs ≡ Some s → room_of (without_place p xs) ≡ room_of xs + size_of s
regained_room xs p s is some = let sum = without_size p xs s is.ascend some in let fits = is.fits in omega (arith, sum, fits)

-- ---- the place is free

no_low : (p : Place) (xs : List Stored) (ys : List Stored) → AreAll Less p xs → record_at p (xs ++ ys) ≡ record_at p ys
no_low p [] ys all = refl
no_low p (x ∷ xs) ys all = rw all.0 (no_low p xs ys all.1)

no_high : (p : Place) (ys : List Stored) → AreAll Greater p ys → record_at p ys ≡ None
no_high p [] all = refl
no_high p (y ∷ ys) all = rw all.0 (no_high p ys all.1)

none_left : (xs : List Stored) (p : Place) → record_at p (without_place p xs) ≡ None
none_left xs p = no_low p (below p xs) (above p xs) (below_is p xs) ∙ no_high p (above p xs) (above_is p xs)

pub changed_sheets : ChangedSheets
changed_sheets = record {
  added = with_sheet;
  removed = without_sheet;
  gone = none_left;
  regained = λ xs p is. by xs p is (record_at p xs) refl;
}
  where
    by : (xs : List Stored) (p : Place) → IsSheet xs → (o : Option Stored) → record_at p xs ≡ o → IfSome o (λ (s : Stored). room_of (without_place p xs) ≡ room_of xs + size_of s)
    by xs p is None none = tt
    by xs p is (Some s) some = regained_room xs p s is some

-- ---- the room that is known

pub room_with : (xs new : List Stored) (s : Stored) (room size : ℕ) → LeavesRoom xs room → IsPlace s.place → record_at s.place xs ≡ None → size_of s ≤ room_of xs → size ≡ size_of s
    → new ≡ with_record s xs → LeavesRoom new (room - size)
room_with xs new s room size is place none fits size_is new_is =
    let fuller = with_sheet xs s is.sheet place none fits in
    let sum = fuller.room in
    let known = is.left in
    subst (λ (ys : List Stored). LeavesRoom ys (room - size)) (sym new_is) (record { sheet = fuller.sheet; left = omega (arith, sum, known, size_is) })

pub room_without : (xs new : List Stored) (p : Place) (s : Stored) (room size : ℕ) → LeavesRoom xs room → record_at p xs ≡ Some s → size ≡ size_of s → new ≡ without_place p xs
    → LeavesRoom new (room + size)
room_without xs new p s room size is some size_is new_is =
    let sum = regained_room xs p s is.sheet some in
    let known = is.left in
    subst (λ (ys : List Stored). LeavesRoom ys (room + size)) (sym new_is) (record { sheet = without_sheet xs p is.sheet; left = omega (arith, sum, known, size_is) })

pub room_kept : (xs new : List Stored) (p : Place) (room : ℕ) → LeavesRoom xs room → record_at p xs ≡ None → new ≡ without_place p xs → LeavesRoom new room
room_kept xs new p room is none new_is = subst (λ (ys : List Stored). LeavesRoom ys room) (sym (new_is ∙ without_none p xs is.sheet.ascend none)) is

-- a record that is there took its part of the page
pub taken_size : (xs : List Stored) (p : Place) (s : Stored) (room : ℕ) → LeavesRoom xs room → record_at p xs ≡ Some s → room + size_of s ≤ 4094
taken_size xs p s room is some =
    let sum = without_size p xs s is.sheet.ascend some in
    let fits = is.sheet.fits in
    let known = is.left in
    omega (arith, sum, fits, known)

-- an empty sheet leaves the whole room
pub empty_room : LeavesRoom [] 4094
unfolding IsStrictlySortedBy
empty_room = record { sheet = record { ascend = tt; places = All-from_recursion HasPlace [] tt; fits = omega arith }; left = refl }

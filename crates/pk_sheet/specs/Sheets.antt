-- What a sheet is: records by ascending places that fit on one page, and what adding and removing make of it.
use Rattle.std.specs.Prelude.{◌≡◌, ℕ, ◌+◌, ◌-◌, ◌^◌, ◌<◌, ◌≤◌, Bool, List, ◌∷◌, ◌++◌, map, length, filter, find, sum_by, All, Option}
use Rattle.std.specs.FinMap.{empty}
use Rattle.std.specs.List.Sorted.{IsStrictlySortedBy}
use Rattle.std.specs.Ordering.{is_lt, is_eq, is_gt}
use Rattle.pk_rows.specs.declared.place.Place.{Place}
use Rattle.pk_rows.specs.declared.stored.Stored.{Stored}
use Rattle.pk_rows.specs.Maps.{Map, place_cmp, with_all}

-- how many bytes a record takes on a page: 4 for its table, 8 for its id, 2 for its length, and its own
abbrev pub size_of : Stored → ℕ
size_of s = 14 + length s.bytes

-- how many bytes of a page are left, of which the number of records takes 2
abbrev pub room_of : List Stored → ℕ
room_of stored = 4094 - sum_by size_of stored

-- each place is above those before it
abbrev pub PlacesAscend : List Stored → Type 0
PlacesAscend stored = IsStrictlySortedBy place_cmp (map (λ (s : Stored). s.place) stored)

-- the numbers of a place as pages hold them, in 4 bytes and in 8
pub record IsPlace (p : Place) : Type 0 where
  pub table : p.table < 2 ^ 32
  pub id : p.id < 2 ^ 64

-- these records are a sheet: their places ascend, and they fit on a page
pub record IsSheet (stored : List Stored) : Type 0 where
  pub ascend : PlacesAscend stored
  pub places : All (λ (s : Stored). IsPlace s.place) stored
  pub fits : sum_by size_of stored ≤ 4094

-- a sheet, and the room that it leaves
pub record LeavesRoom (stored : List Stored) (room : ℕ) : Type 0 where
  pub sheet : IsSheet stored
  pub left : room ≡ room_of stored

-- ---- one place

-- the record is at this place
abbrev pub is_at : Place → Stored → Bool
is_at p s = is_eq (place_cmp s.place p)

-- the record at a place, None where there is none
abbrev pub record_at : Place → List Stored → Option Stored
record_at p stored = find (is_at p) stored

-- the records below a place
abbrev pub below : Place → List Stored → List Stored
below p stored = filter (λ (s : Stored). is_lt (place_cmp s.place p)) stored

-- the records above a place
abbrev pub above : Place → List Stored → List Stored
above p stored = filter (λ (s : Stored). is_gt (place_cmp s.place p)) stored

-- ---- changes

-- these records, and one more at its own place
abbrev pub with_record : Stored → List Stored → List Stored
with_record s stored = below s.place stored ++ (s ∷ above s.place stored)

-- these records without the one at a place
abbrev pub without_place : Place → List Stored → List Stored
without_place p stored = below p stored ++ above p stored

-- the map that records stand for
abbrev pub map_of : List Stored → Map
map_of stored = with_all stored empty

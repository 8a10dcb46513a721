-- What holds of sheets, of their maps and of their pages.
use Rattle.std.specs.Prelude.{◌≡◌, ℕ, ◌+◌, ◌^◌, ◌<◌, ◌≤◌, List, ◌++◌, length, slice_index, All, None, IfSome}
use Rattle.std.specs.FinMap.{insert, remove}
use Rattle.std.specs.List.{flat_map}
use Rattle.std.specs.Int.{to_be_bytes, w16, w32, w64}
use Rattle.std.specs.Option.{option_map}
use Rattle.pk_rows.specs.declared.place.Place.{Place}
use Rattle.pk_rows.specs.declared.stored.Stored.{Stored}
use Rattle.pk_rows.specs.Maps.{bytes_at}
use Rattle.pk_sheet.specs.Sheets.{IsPlace, IsSheet, PlacesAscend, size_of, room_of, record_at, with_record, without_place, map_of}
use Rattle.pk_sheet.specs.Pages.{record_bytes, records_bytes, page_bytes, SheetHolds}

-- ---- sheets and pages

-- a page holds one sheet at most
abbrev pub OneSheet : Type 0
OneSheet = (page : List ℕ) (a b : List Stored) → SheetHolds page a → SheetHolds page b → a ≡ b

-- each sheet has a page that holds it, of 4,096 bytes
abbrev pub SheetsHavePages : Type 0
SheetsHavePages = (stored : List Stored) → IsSheet stored → SheetHolds (page_bytes stored) stored × (length (page_bytes stored) ≡ 4096)

-- ---- changes

-- a sheet's map has what its records have, and changes of its records are changes of the map
pub record SheetsAreMaps : Type 0 where
  pub at : (stored : List Stored) (p : Place) → PlacesAscend stored → bytes_at (map_of stored) p ≡ option_map (λ (s : Stored). s.bytes) (record_at p stored)
  pub added : (stored : List Stored) (s : Stored) → PlacesAscend stored → record_at s.place stored ≡ None
      → map_of (with_record s stored) ≡ insert (map_of stored) s.place s.bytes
  pub removed : (stored : List Stored) (p : Place) → PlacesAscend stored → map_of (without_place p stored) ≡ remove (map_of stored) p

-- a sheet with another record, that leaves so much less
pub record IsFuller (stored : List Stored) (s : Stored) : Type 0 where
  pub sheet : IsSheet (with_record s stored)
  pub room : room_of (with_record s stored) + size_of s ≡ room_of stored

-- what changes make of sheets are sheets
pub record ChangedSheets : Type 0 where
  pub added : (stored : List Stored) (s : Stored) → IsSheet stored → IsPlace s.place → record_at s.place stored ≡ None → size_of s ≤ room_of stored
      → IsFuller stored s
  pub removed : (stored : List Stored) (p : Place) → IsSheet stored → IsSheet (without_place p stored)
  pub gone : (stored : List Stored) (p : Place) → record_at p (without_place p stored) ≡ None
  pub regained : (stored : List Stored) (p : Place) → IsSheet stored
      → IfSome (record_at p stored) (λ (s : Stored). room_of (without_place p stored) ≡ room_of stored + size_of s)

-- ---- pages of no sheet

abbrev pub HoldsNone : List ℕ → Type 0
HoldsNone page = (stored : List Stored) → SheetHolds page stored → ⊥

-- records whose numbers have room in the bytes for them, whether they are a sheet or not
pub record AreSpellable (stored : List Stored) : Type 0 where
  pub few : length stored < 2 ^ 16
  pub places : All (λ (s : Stored). IsPlace s.place) stored
  pub short : All (λ (s : Stored). length s.bytes < 2 ^ 16) stored

-- what no page of a sheet has
pub record PagesOfNone : Type 0 where
  -- more records than fit
  pub many : (count : ℕ) (rest : List ℕ) → 292 < count → count < 2 ^ 16 → HoldsNone (to_be_bytes w16 count ++ rest)
  -- a record of more bytes than are left behind the records before it
  pub long : (count : ℕ) (stored : List Stored) (p : Place) (len : ℕ) (rest : List ℕ) → length stored < count → count < 2 ^ 16 → AreSpellable stored → IsPlace p → length rest < len → len < 2 ^ 16
      → HoldsNone (to_be_bytes w16 count ++ (flat_map record_bytes stored ++ (to_be_bytes w32 p.table ++ (to_be_bytes w64 p.id ++ (to_be_bytes w16 len ++ rest)))))
  -- places that don't ascend
  pub unordered : (stored : List Stored) (rest : List ℕ) → AreSpellable stored → (PlacesAscend stored → ⊥) → HoldsNone (records_bytes stored ++ rest)
  -- another byte than 0 behind the last record
  pub behind : (stored : List Stored) (rest : List ℕ) (i : ℕ) → AreSpellable stored → (slice_index rest i ≡ 0 → ⊥) → HoldsNone (records_bytes stored ++ rest)

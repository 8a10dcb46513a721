-- Which page holds which sheet. All numbers have their highest byte first.
use Rattle.std.specs.Prelude.{◌≡◌, ℕ, List, ◌++◌, length, replicate}
use Rattle.std.specs.List.{flat_map}
use Rattle.std.specs.Int.{to_be_bytes, w16, w32, w64}
use Rattle.pk_rows.specs.declared.stored.Stored.{Stored}
use Rattle.pk_sheet.specs.Sheets.{IsSheet, room_of}

-- a record on a page: its table in 4 bytes, its id in 8, how many bytes it has in 2, and these
abbrev pub record_bytes : Stored → List ℕ
record_bytes s = to_be_bytes w32 s.place.table ++ (to_be_bytes w64 s.place.id ++ (to_be_bytes w16 (length s.bytes) ++ s.bytes))

-- the number of records in 2 bytes, and the records one behind the other
abbrev pub records_bytes : List Stored → List ℕ
records_bytes stored = to_be_bytes w16 (length stored) ++ flat_map record_bytes stored

-- the page of a sheet: its records, and zeros to the page's end
abbrev pub page_bytes : List Stored → List ℕ
page_bytes stored = records_bytes stored ++ replicate (room_of stored) 0

-- a page holds a sheet
pub record SheetHolds (page : List ℕ) (stored : List Stored) : Type 0 where
  pub sheet : IsSheet stored
  pub spelled : page ≡ page_bytes stored

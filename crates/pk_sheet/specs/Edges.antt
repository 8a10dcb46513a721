-- Sheets at their edges.
use Rattle.std.specs.Prelude.{◌≡◌, ℕ, List, [], ◌∷◌, ◌++◌, replicate, Some, None}
use Rattle.pk_rows.specs.declared.place.Place.{Place}
use Rattle.pk_rows.specs.declared.stored.Stored.{Stored}
use Rattle.pk_sheet.specs.Sheets.{IsSheet, room_of, record_at, with_record, without_place}
use Rattle.pk_sheet.specs.Pages.{page_bytes}

abbrev pub place : ℕ → ℕ → Place
place table id = record { table = table; id = id }

abbrev pub stored : ℕ → ℕ → List ℕ → Stored
stored table id bytes = record { place = place table id; bytes = bytes }

-- the bytes `ab` at (1, 1)
abbrev pub small : Stored
small = stored 1 1 (97 ∷ 98 ∷ [])

-- no bytes at (0, 0)
abbrev pub blank : Stored
blank = stored 0 0 []

-- the last byte at the last place
abbrev pub last : Stored
last = stored 4294967295 18446744073709551615 (255 ∷ [])

-- as many bytes as a page has room for
abbrev pub wide : Stored
wide = stored 1 1 (replicate 4080 7)

abbrev pub three : List Stored
three = blank ∷ small ∷ last ∷ []

pub record SheetsAtTheirEdges : Type 0 where
  pub empty_page : page_bytes [] ≡ replicate 4096 0
  pub empty_room : room_of [] ≡ 4094
  -- a record of no bytes is one that takes 14
  pub blank_page : page_bytes (blank ∷ []) ≡ 0 ∷ 1 ∷ replicate 4094 0
  pub blank_room : room_of (blank ∷ []) ≡ 4080
  pub small_page : page_bytes (small ∷ []) ≡ (0 ∷ 1 ∷ 0 ∷ 0 ∷ 0 ∷ 1 ∷ 0 ∷ 0 ∷ 0 ∷ 0 ∷ 0 ∷ 0 ∷ 0 ∷ 1 ∷ 0 ∷ 2 ∷ 97 ∷ 98 ∷ []) ++ replicate 4078 0
  pub small_room : room_of (small ∷ []) ≡ 4078
  pub last_page : page_bytes (last ∷ []) ≡ (0 ∷ 1 ∷ 255 ∷ 255 ∷ 255 ∷ 255 ∷ 255 ∷ 255 ∷ 255 ∷ 255 ∷ 255 ∷ 255 ∷ 255 ∷ 255 ∷ 0 ∷ 1 ∷ 255 ∷ []) ++ replicate 4079 0
  -- 4,080 bytes fill a page
  pub wide_page : page_bytes (wide ∷ []) ≡ (0 ∷ 1 ∷ 0 ∷ 0 ∷ 0 ∷ 1 ∷ 0 ∷ 0 ∷ 0 ∷ 0 ∷ 0 ∷ 0 ∷ 0 ∷ 1 ∷ 15 ∷ 240 ∷ []) ++ replicate 4080 7
  pub wide_room : room_of (wide ∷ []) ≡ 0
  pub wide_sheet : IsSheet (wide ∷ [])
  pub three_sheet : IsSheet three
  -- added at the front, between and at the end, and removed again
  pub in_front : with_record blank (small ∷ last ∷ []) ≡ three
  pub between : with_record small (blank ∷ last ∷ []) ≡ three
  pub at_the_end : with_record last (blank ∷ small ∷ []) ≡ three
  pub taken_out : without_place (place 1 1) three ≡ blank ∷ last ∷ []
  pub was_there : record_at (place 1 1) three ≡ Some small
  pub never_there : record_at (place 1 2) three ≡ None

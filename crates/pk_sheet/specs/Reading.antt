-- Reading a page part by part. No public clause cites this: what is read so is what `SheetHolds` says.
use Rattle.std.specs.Prelude.{◌≡◌, ℕ, zero, suc, if◌then◌else◌, List, [], ◌∷◌, length, take, drop, nat_lt, Option, Some, None, Result, Ok, Err, option_and_then}
use Rattle.std.specs.Borrow.{Bor}
use Rattle.std.specs.Int.{Width, w16, w32, w64, byte_len, from_be_bytes}
use Rattle.pk_rows.specs.declared.stored.Stored.{Stored}
use Rattle.pk_sheet.specs.declared.sheet_err.SheetErr.{SheetErr}
use Rattle.pk_sheet.specs.declared.sheet_err.SheetErr.TheVariants.{Bad, Memory}

-- what stands in front of the bytes, and the bytes behind it
abbrev pub Found : Type 0 → Type 0
Found A = Option (A × List ℕ)

infixl 10 ◌>>=◌
abbrev pub ◌>>=◌ : {A B : Type 0} → Option A → (A → Option B) → Option B
o >>= f = option_and_then f o

-- nothing is found, unless memory ran out
abbrev pub Misses : {A : Type 0} → SheetErr → Option A → Type 0
Misses Bad found = found ≡ None
Misses Memory found = Unit {0}

-- what a reader returned is what is found, unless memory ran out
abbrev pub Finds : {A : Type 0} → Result (A × Bor (List ℕ)) SheetErr → Found A → Type 0
Finds (Ok x) found = found ≡ Some (x.0, x.1.now)
Finds (Err e) found = Misses e found

-- the same of bytes
abbrev pub FindsBytes : Result (Bor (List ℕ) × Bor (List ℕ)) SheetErr → Found (List ℕ) → Type 0
FindsBytes (Ok x) found = found ≡ Some (x.0.now, x.1.now)
FindsBytes (Err e) found = Misses e found

-- ---- parts

unfoldable pub number_at : Width → List ℕ → Found ℕ
number_at w bytes = if nat_lt (length bytes) (byte_len w) then None else Some (from_be_bytes w (take (byte_len w) bytes), drop (byte_len w) bytes)

-- bytes behind their number
unfoldable pub text_at : List ℕ → Found (List ℕ)
text_at bytes = do
  n ← number_at w16 bytes
  if nat_lt (length n.1) n.0 then None else Some (take n.0 n.1, drop n.0 n.1)

unfoldable pub stored_at : List ℕ → Found Stored
stored_at bytes = do
  table ← number_at w32 bytes
  id ← number_at w64 table.1
  text ← text_at id.1
  Some (record { place = record { table = table.0; id = id.0 }; bytes = text.0 }, text.1)

-- as many records as there are said to be
abbrev pub all_at : ℕ → List ℕ → Found (List Stored)
all_at zero bytes = Some ([], bytes)
all_at (suc n) bytes = do
  first ← stored_at bytes
  others ← all_at n first.1
  Some (first.0 ∷ others.0, others.1)

-- the same behind their number
unfoldable pub records_at : List ℕ → Found (List Stored)
records_at bytes = do
  n ← number_at w16 bytes
  all_at n.0 n.1

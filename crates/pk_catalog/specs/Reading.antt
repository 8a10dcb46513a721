-- Reading a record part by part. No public clause cites this: the laws say that what is read so is what the records are.
use Rattle.std.specs.Prelude.{◌≡◌, ℕ, zero, suc, Bool, true, false, ◌==◌, if◌then◌else◌, List, [], ◌∷◌, length, take, drop, nat_lt, Option, Some, None, Result, Ok, Err, option_and_then}
use Rattle.std.specs.Borrow.{Bor}
use Rattle.std.specs.Int.{Width, w32, w64, byte_len, from_be_bytes, cast_signed}
use Rattle.pk_values.specs.declared.key.KeyDecl.{KeyDecl}
use Rattle.pk_values.specs.declared.key.Sort.{Sort}
use Rattle.pk_values.specs.declared.key.Sort.TheVariants.{Certain, Possible}
use Rattle.pk_values.specs.declared.kind.Kind.{Kind}
use Rattle.pk_values.specs.declared.kind.Kind.TheVariants.{Integer, Text}
use Rattle.pk_values.specs.declared.value.Value.{Value}
use Rattle.pk_values.specs.declared.value.Value.TheVariants as values
use Rattle.pk_values.specs.Name.{is_name}
use Rattle.pk_values.specs.Words.{is_words}
use Rattle.pk_syntax.specs.declared.declaration.ColumnDecl.{ColumnDecl}
use Rattle.pk_catalog.specs.declared.cat_err.CatErr.{CatErr}
use Rattle.pk_catalog.specs.declared.cat_err.CatErr.TheVariants.{Bad, Memory}
use Rattle.pk_catalog.specs.declared.table_parts.TableParts.{TableParts}

-- what stands in front of the bytes, and the bytes behind it
abbrev pub Found : Type 0 → Type 0
Found A = Option (A × List ℕ)

infixl 10 ◌>>=◌
abbrev pub ◌>>=◌ : {A B : Type 0} → Option A → (A → Option B) → Option B
o >>= f = option_and_then f o

-- nothing is found, unless memory ran out
abbrev pub Misses : {A : Type 0} → CatErr → Option A → Type 0
Misses Bad found = found ≡ None
Misses Memory found = Unit {0}

-- what a reader returned is what is found, unless memory ran out
abbrev pub Finds : {A : Type 0} → Result (A × Bor (List ℕ)) CatErr → Found A → Type 0
Finds (Ok x) found = found ≡ Some (x.0, x.1.now)
Finds (Err e) found = Misses e found

-- the same of bytes
abbrev pub FindsBytes : Result (Bor (List ℕ) × Bor (List ℕ)) CatErr → Found (List ℕ) → Type 0
FindsBytes (Ok x) found = found ≡ Some (x.0.now, x.1.now)
FindsBytes (Err e) found = Misses e found

-- the same of the whole, with nothing behind it
abbrev pub Reads : {A : Type 0} → Result A CatErr → Option A → Type 0
Reads (Ok x) read = read ≡ Some x
Reads (Err e) read = Misses e read

-- ---- bytes, numbers and texts

abbrev pub byte_at : List ℕ → Found ℕ
byte_at [] = None
byte_at (b ∷ bytes) = Some (b, bytes)

-- what the byte in front stands for
abbrev pub mark_at : {A : Type 0} → (ℕ → Option A) → List ℕ → Found A
mark_at of bytes = do
  mark ← byte_at bytes
  x ← of mark.0
  Some (x, mark.1)

unfoldable pub number_at : Width → List ℕ → Found ℕ
number_at w bytes = if nat_lt (length bytes) (byte_len w) then None else Some (from_be_bytes w (take (byte_len w) bytes), drop (byte_len w) bytes)

-- bytes behind their number
unfoldable pub text_at : List ℕ → Found (List ℕ)
text_at bytes = do
  n ← byte_at bytes
  if nat_lt (length n.1) n.0 then None else Some (take n.0 n.1, drop n.0 n.1)

-- a text that passes a test
abbrev pub passing_at : (List ℕ → Bool) → List ℕ → Found (List ℕ)
passing_at passes bytes = do
  text ← text_at bytes
  if passes text.0 then Some text else None

unfoldable pub words_at : List ℕ → Found (List ℕ)
words_at bytes = passing_at is_words bytes

unfoldable pub name_at : List ℕ → Found (List ℕ)
name_at bytes = passing_at is_name bytes

-- as many as there are said to be
abbrev pub all_at : {A : Type 0} → (List ℕ → Found A) → ℕ → List ℕ → Found (List A)
all_at part zero bytes = Some ([], bytes)
all_at part (suc n) bytes = do
  first ← part bytes
  others ← all_at part n first.1
  Some (first.0 ∷ others.0, others.1)

-- the same behind their number
unfoldable pub list_at : {A : Type 0} → (List ℕ → Found A) → List ℕ → Found (List A)
list_at part bytes = do
  n ← byte_at bytes
  all_at part n.0 n.1

-- what was found, where no byte is behind it
abbrev pub ended : {A : Type 0} → Found A → Option A
ended found = do
  x ← found
  if length x.1 == 0 then Some x.0 else None

-- ---- rows

unfoldable pub value_at : List ℕ → Found Value
value_at [] = None
value_at (zero ∷ rest) = Some (values.Null, rest)
value_at (suc zero ∷ rest) = do
  n ← number_at w64 rest
  Some (values.Integer (cast_signed w64 n.0), n.1)
value_at (suc (suc zero) ∷ rest) = do
  text ← words_at rest
  Some (values.Text text.0, text.1)
value_at (suc (suc (suc b)) ∷ rest) = None

-- so many values, and nothing behind them
unfoldable pub row_at : ℕ → List ℕ → Option (List Value)
row_at width bytes = ended (all_at value_at width bytes)

-- ---- tables

abbrev pub kind_of : ℕ → Option Kind
kind_of zero = None
kind_of (suc zero) = Some Integer
kind_of (suc (suc zero)) = Some Text
kind_of (suc (suc (suc b))) = None

abbrev pub sort_of : ℕ → Option Sort
sort_of zero = None
sort_of (suc zero) = Some Certain
sort_of (suc (suc zero)) = Some Possible
sort_of (suc (suc (suc b))) = None

abbrev pub flag_of : ℕ → Option Bool
flag_of zero = Some false
flag_of (suc zero) = Some true
flag_of (suc (suc b)) = None

abbrev pub version_of : ℕ → Option ℕ
version_of zero = None
version_of (suc zero) = Some 1
version_of (suc (suc b)) = None

unfoldable pub kind_at : List ℕ → Found Kind
kind_at bytes = mark_at kind_of bytes

unfoldable pub sort_at : List ℕ → Found Sort
sort_at bytes = mark_at sort_of bytes

unfoldable pub flag_at : List ℕ → Found Bool
flag_at bytes = mark_at flag_of bytes

unfoldable pub version_at : List ℕ → Found ℕ
version_at bytes = mark_at version_of bytes

unfoldable pub column_at : List ℕ → Found ColumnDecl
column_at bytes = do
  name ← name_at bytes
  kind ← kind_at name.1
  max ← byte_at kind.1
  not_null ← flag_at max.1
  Some (record { name = name.0; kind = kind.0; max = max.0; not_null = not_null.0 }, not_null.1)

unfoldable pub key_at : List ℕ → Found KeyDecl
key_at bytes = do
  sort ← sort_at bytes
  columns ← number_at w32 sort.1
  Some (record { sort = sort.0; columns = columns.0 }, columns.1)

-- the parts of a table, whatever they are
unfoldable pub parts_at : List ℕ → Found TableParts
parts_at bytes = do
  version ← version_at bytes
  next ← number_at w64 version.1
  name ← name_at next.1
  columns ← list_at column_at name.1
  keys ← list_at key_at columns.1
  Some (record { name = name.0; columns = columns.0; keys = keys.0; next = next.0 }, keys.1)

-- the same with nothing behind them
unfoldable pub table_at : List ℕ → Option TableParts
table_at bytes = ended (parts_at bytes)

-- The bytes in which files keep a base: its own record, those of its tables, and those of their rows. All numbers have their highest byte first.
use Rattle.std.specs.Prelude.{◌≡◌, ℕ, ◌^◌, ◌≤◌, Bool, true, false, not, ◌&&◌, List, [], ◌∷◌, ◌++◌, length, nat_le, Option, Some, None, Result, Ok, Err, IsTrue}
use Rattle.std.specs.List.{flat_map}
use Rattle.std.specs.Int.{to_be_bytes, w32, w64}
use Rattle.pk_values.specs.declared.key.KeyDecl.{KeyDecl}
use Rattle.pk_values.specs.declared.key.Sort.{Sort}
use Rattle.pk_values.specs.declared.key.Sort.TheVariants.{Certain, Possible}
use Rattle.pk_values.specs.declared.kind.Kind.{Kind}
use Rattle.pk_values.specs.declared.kind.Kind.TheVariants.{Integer, Text}
use Rattle.pk_values.specs.declared.value.Value.{Value}
use Rattle.pk_values.specs.Name.{is_name}
use Rattle.pk_values.specs.Records.{row_record, AreStorable}
use Rattle.pk_syntax.specs.declared.declaration.ColumnDecl.{ColumnDecl}
use Rattle.pk_syntax.specs.Words.{is_reserved}
use Rattle.pk_schema.specs.Shapes.{Shape, IsShape}
use Rattle.pk_schema.specs.Admits.{Admits}
use Rattle.pk_catalog.specs.declared.cat_err.CatErr.{CatErr}
use Rattle.pk_catalog.specs.declared.cat_err.CatErr.TheVariants.{Bad, Memory}
use Rattle.pk_catalog.specs.declared.table_record.TableRecord.{TableRecord}

-- ---- a base

-- the version of the records, 1, and how many commits there have been
abbrev pub base_record : ℕ → List ℕ
base_record commits = 1 ∷ to_be_bytes w64 commits

-- the bytes are the record of a base with so many commits
pub record IsBaseRecord (bytes : List ℕ) (commits : ℕ) : Type 0 where
  pub spelled : bytes ≡ base_record commits
  pub few : commits ≤ 2 ^ 62

-- ---- tables

-- a name behind the number of its bytes
abbrev pub name_record : List ℕ → List ℕ
name_record name = length name ∷ name

abbrev pub kind_byte : Kind → ℕ
kind_byte Integer = 1
kind_byte Text = 2

abbrev pub sort_byte : Sort → ℕ
sort_byte Certain = 1
sort_byte Possible = 2

abbrev pub flag_byte : Bool → ℕ
flag_byte false = 0
flag_byte true = 1

-- a column: its name, its kind, how long its texts may be, and whether it is NOT NULL
abbrev pub column_record : ColumnDecl → List ℕ
column_record c = name_record c.name ++ (kind_byte c.kind ∷ c.max ∷ flag_byte c.not_null ∷ [])

-- a key: its sort, and the number with the bit c for each of its columns c
abbrev pub key_record : KeyDecl → List ℕ
key_record k = sort_byte k.sort ∷ to_be_bytes w32 k.columns

-- the parts behind their number
abbrev pub list_record : {A : Type 0} → (A → List ℕ) → List A → List ℕ
list_record part xs = length xs ∷ flat_map part xs

-- a table: the version of the records, the id of its next row, its name, its columns and its keys
abbrev pub table_record : TableRecord → List ℕ
table_record t = 1 ∷ (to_be_bytes w64 t.next ++ (name_record t.name ++ (list_record column_record t.schema.columns ++ list_record key_record t.schema.keys)))

-- what files may call a table: a name of at most 255 bytes that is no word of the grammar
abbrev pub is_table_name : List ℕ → Bool
is_table_name name = is_name name && not (is_reserved name) && nat_le (length name) 255

-- what files may say of a table
pub record IsTable (t : TableRecord) : Type 0 where
  pub named : IsTrue (is_table_name t.name)
  pub shape : IsShape t.schema
  pub first : 1 ≤ t.next
  pub few : t.next ≤ 2 ^ 62

-- the bytes are the record of this table
pub record IsTableRecord (bytes : List ℕ) (t : TableRecord) : Type 0 where
  pub spelled : bytes ≡ table_record t
  pub table : IsTable t

-- ---- rows

-- the bytes are the record of a row, of a table of this shape: its values in their order, and nothing else
pub record IsRowRecord (s : Shape) (bytes : List ℕ) (row : List Value) : Type 0 where
  pub spelled : bytes ≡ row_record row
  pub admitted : Admits s row
  pub storable : AreStorable row

-- ---- reading

-- What was read is such a thing, and Bad comes only where nothing is. Memory may run out at any time.
abbrev pub Gets : {A : Type 0} → (A → Type 0) → Result A CatErr → Type 0
Gets Is (Ok x) = Is x
Gets Is (Err Bad) = (x : _) → Is x → ⊥
Gets Is (Err Memory) = Unit {0}

-- the same where no memory is taken
abbrev pub GetsIf : {A : Type 0} → (A → Type 0) → Option A → Type 0
GetsIf Is (Some x) = Is x
GetsIf Is None = (x : _) → Is x → ⊥

-- Which maps stand for bases, said of the maps alone.
use Rattle.std.specs.Prelude.{◌≡◌, ◌⊎◌, ℕ, ◌≤◌, ◌<◌, List, All, length, Some, None}
use Rattle.pk_values.specs.declared.value.Value.{Value}
use Rattle.pk_catalog.specs.declared.table_record.TableRecord.{TableRecord}
use Rattle.pk_catalog.specs.Records.{IsTable, IsBaseRecord, IsTableRecord, IsRowRecord, table_record}
use Rattle.pk_catalog.specs.Bases.{Base, Map, AreDistinct, StandsFor}

-- ---- what a map has

-- the bytes are what the map has at this place
abbrev pub Has : Map → ℕ → ℕ → List ℕ → Type 0
Has m number id bytes = m number id ≡ Some bytes

abbrev pub IsEmpty : Map → Type 0
IsEmpty m = (number id : ℕ) → m number id ≡ None

-- the map has the record of this table under this number
pub record HasTable (m : Map) (number : ℕ) (t : TableRecord) : Type 0 where
  pub numbered : 1 ≤ number
  pub table : IsTable t
  pub here : Has m number 0 (table_record t)

-- the bytes are the record of a row that this table may have at this id
pub record IsRowOf (t : TableRecord) (id : ℕ) (bytes : List ℕ) : Type 0 where
  pub below : id < t.next
  pub row : List Value
  pub spelled : IsRowRecord t.schema bytes row

-- places of a base: its own, and those of tables with numbers from 1 to 256 and of their rows
abbrev pub IsPlace : ℕ → ℕ → Type 0
IsPlace number id = ((number ≡ 0) × (id ≡ 0)) ⊎ ((1 ≤ number) × (number ≤ 256))

-- something is there, at the place of a row
pub record HasRowAt (m : Map) (place : ℕ × ℕ) : Type 0 where
  pub numbered : 1 ≤ place.0
  pub row : 1 ≤ place.1
  pub bytes : List ℕ
  pub here : Has m place.0 place.1 bytes

-- ---- maps of bases

-- Every place is one of a base; the base's own record is there, and the table of each row; every record is in its grammar, and each row below its table's next id;
-- no two tables have one name, and there are at most 200,000 rows.
pub record IsBaseMap (m : Map) : Type 0 where
  pub places : (number id : ℕ) (bytes : List ℕ) → Has m number id bytes → IsPlace number id
  pub base : (bytes : List ℕ) × Has m 0 0 bytes × ((commit : ℕ) × IsBaseRecord bytes commit)
  pub tables : (number : ℕ) (bytes : List ℕ) → 1 ≤ number → Has m number 0 bytes → (t : TableRecord) × IsTableRecord bytes t
  pub rows : (number id : ℕ) (bytes : List ℕ) → 1 ≤ number → 1 ≤ id → Has m number id bytes → (t : TableRecord) × HasTable m number t × IsRowOf t id bytes
  pub names : (a b : ℕ) (t u : TableRecord) → HasTable m a t → HasTable m b u → t.name ≡ u.name → a ≡ b
  pub few_rows : (rows : List (ℕ × ℕ)) → AreDistinct rows → All (HasRowAt m) rows → length rows ≤ 200000

-- a map stands for a base exactly where it is empty or such a map
pub record MapsOfBases : Type 0 where
  pub is_map : (m : Map) (b : Base) → StandsFor m b → IsEmpty m ⊎ IsBaseMap m
  pub has_base : (m : Map) → IsEmpty m ⊎ IsBaseMap m → (b : Base) × StandsFor m b

-- ---- maps of none

abbrev pub StandsForNone : Map → Type 0
StandsForNone m = (b : Base) → StandsFor m b → ⊥

-- what no map of a base has
pub record MapsOfNone : Type 0 where
  -- something beside the base's own record, behind the last number of a table, or anything where that record isn't
  pub beside_base : (m : Map) (bytes : List ℕ) → Has m 0 1 bytes → StandsForNone m
  pub number_257 : (m : Map) (bytes : List ℕ) → Has m 257 0 bytes → StandsForNone m
  pub no_base : (m : Map) (number id : ℕ) (bytes : List ℕ) → m 0 0 ≡ None → Has m number id bytes → StandsForNone m
  -- a row without its table, or at its table's next id
  pub no_table : (m : Map) (number id : ℕ) (bytes : List ℕ) → 1 ≤ number → m number 0 ≡ None → Has m number id bytes → StandsForNone m
  pub at_next : (m : Map) (number : ℕ) (t : TableRecord) (bytes : List ℕ) → HasTable m number t → Has m number t.next bytes → StandsForNone m
  -- two tables of one name
  pub name_twice : (m : Map) (a b : ℕ) (t u : TableRecord) → HasTable m a t → HasTable m b u → t.name ≡ u.name → (a ≡ b → ⊥) → StandsForNone m
  -- more than 200,000 rows
  pub many_rows : (m : Map) (rows : List (ℕ × ℕ)) → AreDistinct rows → All (HasRowAt m) rows → length rows ≡ 200001 → StandsForNone m
  -- bytes that are no record
  pub other_base : (m : Map) (bytes : List ℕ) → Has m 0 0 bytes → ((commit : ℕ) → IsBaseRecord bytes commit → ⊥) → StandsForNone m
  pub other_table : (m : Map) (number : ℕ) (bytes : List ℕ) → 1 ≤ number → Has m number 0 bytes → ((t : TableRecord) → IsTableRecord bytes t → ⊥) → StandsForNone m
  pub other_row : (m : Map) (number id : ℕ) (t : TableRecord) (bytes : List ℕ) → HasTable m number t → 1 ≤ id → Has m number id bytes
      → ((row : List Value) → IsRowRecord t.schema bytes row → ⊥) → StandsForNone m

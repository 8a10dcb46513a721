-- Which map from places to bytes stands for which base. A place is a pair of numbers: that of a table, and the id of one of its rows.
use Rattle.std.specs.Prelude.{◌≡◌, ◌⊎◌, ℕ, ◌+◌, ◌^◌, ◌≤◌, ◌<◌, Bool, ◌&&◌, ◌==◌, if◌then◌else◌, List, [], ◌∷◌, length, map, All, find, sum_by, Option, Some, None}
use Rattle.std.specs.Option.{option_map}
use Rattle.std.specs.List.Sorted.{IsStrictlySortedBy}
use Rattle.std.specs.Ordering.{nat_cmp}
use Rattle.std.specs.Cmp.Lexicographic.{slice_cmp}
use Rattle.pk_values.specs.declared.placed.Placed.{Placed}
use Rattle.pk_values.specs.declared.value.Value.{Value}
use Rattle.pk_values.specs.Records.{row_record, AreStorable}
use Rattle.pk_schema.specs.Shapes.{Shape}
use Rattle.pk_schema.specs.Admits.{Admits}
use Rattle.pk_catalog.specs.declared.table_record.TableRecord.{TableRecord}
use Rattle.pk_catalog.specs.Records.{base_record, table_record, IsTable}

-- ---- bases

-- a table: its name, its columns and keys, the id of its next row, and its rows by their ids
pub record Table : Type 0 where
  pub name : List ℕ
  pub shape : Shape
  pub next : ℕ
  pub rows : List Placed

-- a base: how many commits it has had, and its tables by their names
pub record Base : Type 0 where
  pub commit : ℕ
  pub tables : List Table

-- the base of a fresh start
abbrev pub empty_base : Base
empty_base = record { commit = 0; tables = [] }

-- a table without its rows
abbrev pub known_of : Table → TableRecord
known_of t = record { name = t.name; schema = t.shape; next = t.next }

-- the ids rise, none is below the least, and all are below the next
abbrev pub IdsRise : ℕ → List Placed → ℕ → Type 0
IdsRise least [] next = least ≤ next
IdsRise least (p ∷ ps) next = (least ≤ p.id) × IdsRise (p.id + 1) ps next

-- a table as files may keep it, but for what its keys ask
pub record IsKept (t : Table) : Type 0 where
  pub known : IsTable (known_of t)
  pub ids : IdsRise 1 t.rows t.next
  pub admitted : All (λ (p : Placed). Admits t.shape p.row) t.rows
  pub storable : All (λ (p : Placed). AreStorable p.row) t.rows

-- A base as files may keep it, but for what keys ask: that each declared key holds in its table is to be said beside this, where the meaning of keys is.
pub record IsBase (b : Base) : Type 0 where
  pub names : IsStrictlySortedBy (slice_cmp nat_cmp) (map (λ (t : Table). t.name) b.tables)
  pub kept : All IsKept b.tables
  pub few_tables : length b.tables ≤ 256
  pub few_rows : sum_by (λ (t : Table). length t.rows) b.tables ≤ 200000
  pub few_commits : b.commit ≤ 2 ^ 62

-- ---- tables by numbers

-- a table with the number that places know it by
pub record Numbered : Type 0 where
  pub number : ℕ
  pub table : Table

abbrev pub numbers_of : List Numbered → List ℕ
numbers_of ts = map (λ (t : Numbered). t.number) ts

abbrev pub tables_of : List Numbered → List Table
tables_of ts = map (λ (t : Numbered). t.table) ts

-- none of them stands twice
abbrev pub AreDistinct : {A : Type 0} → List A → Type 0
AreDistinct [] = Unit {0}
AreDistinct (x ∷ xs) = All (λ y. x ≡ y → ⊥) xs × AreDistinct xs

-- the numbers of tables are from 1 to 256, each of one table
pub record AreNumbers (ns : List ℕ) : Type 0 where
  pub distinct : AreDistinct ns
  pub inside : All (λ n. (1 ≤ n) × (n ≤ 256)) ns

-- ---- maps

-- what a map has at each place, as a table's number and a row's id
abbrev pub Map : Type 0
Map = ℕ → ℕ → Option (List ℕ)

-- a map with nothing in it
abbrev pub nothing : Map
nothing number id = None

-- the row with this id
abbrev pub row_of : List Placed → ℕ → Option (List Value)
row_of rows id = option_map (λ (p : Placed). p.row) (find (λ (p : Placed). p.id == id) rows)

-- what a table has at an id: its own record at 0, and elsewhere that of a row
abbrev pub record_in : Option Table → ℕ → Option (List ℕ)
record_in None id = None
record_in (Some t) id = if 0 == id then Some (table_record (known_of t)) else option_map row_record (row_of t.rows id)

-- the table with this number
abbrev pub table_of : List Numbered → ℕ → Option Table
table_of ts number = option_map (λ (t : Numbered). t.table) (find (λ (t : Numbered). t.number == number) ts)

-- the least number from 1 on that no table has: the one that a new table gets
pub record IsLeastFree (ts : List Numbered) (number : ℕ) : Type 0 where
  pub first : 1 ≤ number
  pub free : table_of ts number ≡ None
  pub least : (n : ℕ) → 1 ≤ n → n < number → (t : Table) × (table_of ts n ≡ Some t)

-- what tables have at a place
abbrev pub table_records : List Numbered → Map
table_records ts number id = record_in (table_of ts number) id

-- the place of a base's own record
abbrev pub is_base_place : ℕ → ℕ → Bool
is_base_place number id = 0 == number && 0 == id

-- all that files keep of a base: its own record at (0, 0), and what its tables have
abbrev pub records : ℕ → List Numbered → Map
records commit ts number id = if is_base_place number id then Some (base_record commit) else table_records ts number id

-- the map has just the records of these tables, and of the base with so many commits
abbrev pub Keeps : Map → ℕ → List Numbered → Type 0
Keeps m commit ts = (number id : ℕ) → m number id ≡ records commit ts number id

-- the map has the records of a base
pub record KeepsBase (m : Map) (b : Base) : Type 0 where
  pub numbered : List Numbered
  pub tables : tables_of numbered ≡ b.tables
  pub numbers : AreNumbers (numbers_of numbered)
  pub keeps : Keeps m b.commit numbered

-- the map has nothing, and so has the base
pub record IsFresh (m : Map) (b : Base) : Type 0 where
  pub none : (number id : ℕ) → m number id ≡ None
  pub empty : b ≡ empty_base

-- The map stands for the base: a base that files may keep, and either both have nothing, or the map has the records of the base under some numbers of its tables.
pub record StandsFor (m : Map) (b : Base) : Type 0 where
  pub base : IsBase b
  pub kept : IsFresh m b ⊎ KeepsBase m b

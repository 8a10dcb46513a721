-- What holds of records and of maps, in words that don't retrace how they are spelled.
use Rattle.std.specs.Prelude.{◌≡◌, ℕ, ◌<◌, List, [], ◌∷◌, ◌++◌, length, false, Some, None}
use Rattle.pk_values.specs.declared.changes.Changes.{Changes}
use Rattle.pk_values.specs.declared.value.Value.{Value}
use Rattle.pk_values.specs.Records.{row_record, AreStorable}
use Rattle.pk_schema.specs.Shapes.{Shape}
use Rattle.pk_schema.specs.Admits.{Admits}
use Rattle.pk_catalog.specs.declared.table_record.TableRecord.{TableRecord}
use Rattle.pk_catalog.specs.Records.{IsBaseRecord, IsTableRecord, IsRowRecord}
use Rattle.pk_catalog.specs.Bases.{Table, Base, Numbered, Map, IsBase, IsLeastFree, AreNumbers, StandsFor, Keeps, nothing, empty_base, numbers_of, tables_of, table_of, records}
use Rattle.pk_catalog.specs.Batches.{Put, IsChanged, KeepsTables, batched, put_at, is_gone, base_put, table_put, places, rows_gone, rows_put}

-- ---- records

-- The same bytes are the record of one thing at most. So two different rows of a table have different bytes.
pub record RecordsTellOne : Type 0 where
  pub rows : (s : Shape) (bytes : List ℕ) (a b : List Value) → IsRowRecord s bytes a → IsRowRecord s bytes b → a ≡ b
  pub tables : (bytes : List ℕ) (a b : TableRecord) → IsTableRecord bytes a → IsTableRecord bytes b → a ≡ b
  pub bases : (bytes : List ℕ) (a b : ℕ) → IsBaseRecord bytes a → IsBaseRecord bytes b → a ≡ b

-- a row has a record by each shape that admits it, and each time the same
abbrev pub RowsHaveRecords : Type 0
RowsHaveRecords = (s : Shape) (row : List Value) → AreStorable row → Admits s row → IsRowRecord s (row_record row) row

-- ---- maps and bases

-- a map stands for one base at most
abbrev pub OneBase : Type 0
OneBase = (m : Map) (a b : Base) → StandsFor m a → StandsFor m b → a ≡ b

-- a base that files may keep has a map, under any numbers of its tables; the fresh one also has the map with nothing
pub record BasesHaveMaps : Type 0 where
  pub numbered : (ts : List Numbered) (b : Base) → IsBase b → tables_of ts ≡ b.tables → AreNumbers (numbers_of ts) → StandsFor (records b.commit ts) b
  pub fresh : StandsFor nothing empty_base

-- a new table has a number among fewer than 256 tables
pub record NewTablesHaveNumbers : Type 0 where
  pub one : (ts : List Numbered) (a b : ℕ) → IsLeastFree ts a → IsLeastFree ts b → a ≡ b
  pub some : (ts : List Numbered) → length ts < 256 → (number : ℕ) × IsLeastFree ts number
  -- with it they have their numbers as before, wherever it stands among them
  pub numbered : (front back : List Numbered) (number : ℕ) (t : Table) → length (front ++ back) < 256 → AreNumbers (numbers_of (front ++ back)) → IsLeastFree (front ++ back) number
      → AreNumbers (numbers_of (front ++ record { number = number; table = t } ∷ back))

-- ---- commits

-- What batches do to a map that keeps tables. At the place of the base's own record it may have anything, since each commit puts that.
pub record BatchesAreCommits : Type 0 where
  -- the map of a base keeps its tables, and one with nothing keeps none
  pub kept : (m : Map) (commit : ℕ) (ts : List Numbered) → Keeps m commit ts → KeepsTables m ts
  pub fresh : (m : Map) → ((number id : ℕ) → m number id ≡ None) → KeepsTables m []
  -- with the number of commits it keeps the whole base
  pub counted : (m : Map) (commit : ℕ) (ts : List Numbered) → KeepsTables m ts → Keeps (batched [] (base_put commit ∷ []) m) commit ts
  -- a table is made under a number that none has, wherever it stands among the others
  pub made : (m : Map) (front back : List Numbered) (number : ℕ) (t : Table) → t.rows ≡ [] → table_of (front ++ back) number ≡ None → KeepsTables m (front ++ back)
      → KeepsTables (batched [] (table_put number t ∷ []) m) (front ++ record { number = number; table = t } ∷ back)
  -- a table is dropped with all its rows
  pub dropped : (m : Map) (front back : List Numbered) (number : ℕ) (t : Table) → AreNumbers (numbers_of (front ++ record { number = number; table = t } ∷ back))
      → KeepsTables m (front ++ record { number = number; table = t } ∷ back) → KeepsTables (batched (places number t) [] m) (front ++ back)
  -- rows of a table go, and others are put
  pub changed : (m : Map) (front back : List Numbered) (number : ℕ) (old new : Table) (c : Changes) → IsChanged c old new
      → AreNumbers (numbers_of (front ++ record { number = number; table = old } ∷ back)) → KeepsTables m (front ++ record { number = number; table = old } ∷ back)
      → KeepsTables (batched (rows_gone number c) (rows_put number new c) m) (front ++ record { number = number; table = new } ∷ back)
  -- two batches, of which the second has no place that the first puts, are one
  pub joined : (m : Map) (gone more : List (ℕ × ℕ)) (puts others : List Put)
      → ((number id : ℕ) (bytes : List ℕ) → put_at puts number id ≡ Some bytes → (is_gone more number id ≡ false) × (put_at others number id ≡ None))
      → (number id : ℕ) → batched more others (batched gone puts m) number id ≡ batched (gone ++ more) (puts ++ others) m number id

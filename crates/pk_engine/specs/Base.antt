use Rattle.std.specs.Prelude.{ℕ, ◌+◌, Bool, List, [], ◌∷◌, length, map, filter, sum_by, Option, find, nat_le, if◌then◌else◌}
use Rattle.std.specs.Str.{bytes_eq}
use Rattle.std.specs.Ordering.{nat_cmp, is_lt}
use Rattle.std.specs.Cmp.Lexicographic.{slice_cmp}
use Rattle.std.specs.List.Sorted.{IsStrictlySortedBy}
use Rattle.pk_values.specs.declared.placed.Placed.{Placed}
use Rattle.pk_values.specs.declared.changes.Changes.{Changes}
use Rattle.pk_schema.specs.Shapes.{Shape}
use Rattle.pk_guard.specs.Changed.{changed_rows}

-- a table: its rows stand in ascending order of their ids, and each id is below the next one
pub record Table : Type 0 where
  pub name : List ℕ
  pub shape : Shape
  pub next : ℕ
  pub rows : List Placed

-- a base: how many commits it has had, and its tables in the byte order of their names
pub record Base : Type 0 where
  pub commit : ℕ
  pub tables : List Table

-- the base of a fresh start
abbrev pub empty_base : Base
empty_base = record { commit = 0; tables = [] }

-- the tables ascend by the bytes of their names, so that no two have the same
abbrev pub IsInNameOrder : List Table → Type 0
IsInNameOrder tables = IsStrictlySortedBy (slice_cmp nat_cmp) (map (λ t. t.name) tables)

-- whether it is the table of this name
abbrev pub is_named : List ℕ → Table → Bool
is_named name t = bytes_eq t.name name

-- the table of this name
unfoldable pub table_named : List ℕ → List Table → Option Table
table_named name tables = find (is_named name) tables

-- whether the first name comes before the second, byte by byte
abbrev pub comes_before : List ℕ → List ℕ → Bool
comes_before a b = is_lt (slice_cmp nat_cmp a b)

-- the tables and a new one, which stands before the first whose name comes behind its own
unfoldable pub with_table : Table → List Table → List Table
with_table t [] = t ∷ []
with_table t (u ∷ us) = if comes_before t.name u.name then t ∷ u ∷ us else u ∷ with_table t us

-- the tables but that of this name
unfoldable pub without_table : List ℕ → List Table → List Table
without_table name [] = []
without_table name (t ∷ ts) = if is_named name t then ts else t ∷ without_table name ts

-- ---- rows changed

-- how many of the rows that are put are new: those from the next id on
abbrev pub added_by : Table → Changes → ℕ
added_by t c = length (filter (λ (p : Placed). nat_le t.next p.id) c.put)

-- the table after these changes
unfoldable pub changed_by : Changes → Table → Table
changed_by c t = record t { next = t.next + added_by t c; rows = changed_rows c t.rows }

-- the tables with the one of this name changed
unfoldable pub change_table : List ℕ → Changes → List Table → List Table
change_table name c [] = []
change_table name c (t ∷ ts) = if is_named name t then changed_by c t ∷ ts else t ∷ change_table name c ts

-- how many rows the tables have together
abbrev pub row_count : Base → ℕ
row_count b = sum_by (λ t. length t.rows) b.tables

-- What a SELECT tells of the rows that a transaction sees.
use Rattle.std.specs.Prelude.{ℕ, Bool, true, false, List, [], ◌∷◌, map, slice_get, if◌then◌else◌}
use Rattle.std.specs.Option.{unwrap_or}
use Rattle.std.specs.Ordering.{is_gt, ordering_then, ordering_reverse}
use Rattle.std.specs.declared.cmp.Ordering.{Ordering}
use Rattle.std.specs.declared.cmp.Ordering.TheVariants.{Equal}
use Rattle.pk_values.specs.declared.value.Value.{Value}
use Rattle.pk_values.specs.Values.{value_at, value_cmp}
use Rattle.pk_bind.specs.declared.selection.OrderBy.{OrderBy}
use Rattle.pk_bind.specs.declared.selection.Selection.{Selection}
use Rattle.pk_bind.specs.declared.selection.Shown.{Shown}
use Rattle.pk_bind.specs.declared.selection.Shown.TheVariants.{Columns, Count}
use Rattle.pk_exec.specs.declared.selected.Selected.{Selected}
use Rattle.pk_exec.specs.Entries.{Entry, row_in}
use Rattle.pk_exec.specs.Edits.{taken}

-- ---- ORDER BY

-- an ordering, turned round where the greatest comes first
abbrev pub turned : Bool → Ordering → Ordering
turned false order = order
turned true order = ordering_reverse order

-- how two rows stand by one column: null before what is known, and the other way where the greatest comes first
abbrev pub column_cmp : OrderBy → List Value → List Value → Ordering
column_cmp by a b = turned by.down (value_cmp (value_at a by.column) (value_at b by.column))

-- the first column that tells the rows apart decides
unfoldable pub row_cmp : List OrderBy → List Value → List Value → Ordering
row_cmp [] a b = Equal
row_cmp (by ∷ order) a b = ordering_then (column_cmp by a b) (row_cmp order a b)

-- the row before the first that it doesn't come behind
abbrev pub put_in_order : List OrderBy → List Value → List (List Value) → List (List Value)
put_in_order order row [] = row ∷ []
put_in_order order row (r ∷ rows) = if is_gt (row_cmp order row r) then r ∷ put_in_order order row rows else row ∷ r ∷ rows

-- the rows in order; rows that tie stand as they stood
unfoldable pub sorted_by : List OrderBy → List (List Value) → List (List Value)
sorted_by order [] = []
sorted_by order (row ∷ rows) = put_in_order order row (sorted_by order rows)

-- ---- what is told

-- the values of these columns
abbrev pub values_at : List ℕ → List Value → List Value
values_at columns row = map (value_at row) columns

-- the name of the column; empty where there is no such column
abbrev pub name_of : List (List ℕ) → ℕ → List ℕ
name_of names c = unwrap_or (slice_get names c) []

-- these columns of the rows, under their names; or an empty row for each where they are counted alone
abbrev pub shown : Shown → List (List ℕ) → List OrderBy → List (List Value) → Selected
shown (Columns columns) names order rows =
    record { header = map (name_of names) columns; rows = map (values_at columns) (sorted_by order rows) }
shown Count names order rows = record { header = []; rows = map (λ row. []) rows }

-- the rows that meet the condition, in order; names are those of the table's columns
unfoldable pub selected : Selection → List (List ℕ) → List Entry → Selected
selected s names entries = shown s.shown names s.order (map row_in (taken s.cond entries))

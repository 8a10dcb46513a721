-- The rows of the base as a transaction's edits leave them.
use Rattle.std.specs.Prelude.{ℕ, Bool, true, false, ◌==◌, List, [], ◌∷◌, Option, Some, None, IfSome, if◌then◌else◌}
use Rattle.std.specs.List.{filter_map}
use Rattle.pk_values.specs.declared.placed.Placed.{Placed}
use Rattle.pk_values.specs.declared.value.Value.{Value}
use Rattle.pk_schema.specs.Shapes.{Shape}
use Rattle.pk_schema.specs.Admits.{Admits}
use Rattle.pk_exec.specs.declared.base.BaseRow.{BaseRow}
use Rattle.pk_exec.specs.declared.table_edits.EditedRow.{EditedRow}
use Rattle.pk_exec.specs.Entries.{Entry, Kept, Touched}

-- the first edit, if it is of this row
abbrev pub edit_for : List EditedRow → ℕ → Option EditedRow
edit_for [] id = None
edit_for (e ∷ es) id = if e.id == id then Some e else None

-- the edits behind it
abbrev pub edits_behind : List EditedRow → ℕ → List EditedRow
edits_behind [] id = []
edits_behind (e ∷ es) id = if e.id == id then es else e ∷ es

abbrev pub base_by : Option EditedRow → Placed → BaseRow
base_by None p = record { id = p.id; edited = false; row = Some p.row }
base_by (Some e) p = record { id = p.id; edited = true; row = e.row }

-- a row of the base as the edits from there on leave it
abbrev pub base_at : List EditedRow → Placed → BaseRow
base_at es p = base_by (edit_for es p.id) p

-- all rows of the base as the edits leave them; both stand in the order of their ids
unfoldable pub base_rows : List EditedRow → List Placed → List BaseRow
base_rows es [] = []
base_rows es (p ∷ ps) = base_at es p ∷ base_rows (edits_behind es p.id) ps

-- the schema admits the row, where there is one
abbrev pub IsRowAdmitted : Shape → Option (List Value) → Type 0
IsRowAdmitted s row = IfSome row (Admits s)

-- what the transaction sees of the row
abbrev pub seen_entry : ℕ → Bool → Option (List Value) → List Entry
seen_entry id edited None = []
seen_entry id true (Some row) = Touched id row ∷ []
seen_entry id false (Some row) = Kept id row ∷ []

abbrev pub base_entry : BaseRow → List Entry
base_entry b = seen_entry b.id b.edited b.row

-- the edit that leaves the row so
abbrev pub edit_by : Bool → ℕ → Option (List Value) → Option EditedRow
edit_by true id row = Some (record { id = id; row = row })
edit_by false id row = None

-- the edits that leave the rows so
abbrev pub edits_in : List BaseRow → List EditedRow
edits_in bases = filter_map (λ (b : BaseRow). edit_by b.edited b.id b.row) bases

-- the rows that are there
abbrev pub rows_in : List BaseRow → List (List Value)
rows_in bases = filter_map (λ (b : BaseRow). b.row) bases

-- What a transaction sees of the base's rows.
use Rattle.std.specs.Prelude.{◌≡◌, ℕ, Bool, true, false, ◌==◌, List, [], ◌∷◌, ◌++◌, map, All, if◌then◌else◌}
use Rattle.std.specs.List.{flat_map}
use Rattle.pk_values.specs.declared.placed.Placed.{Placed}
use Rattle.pk_values.specs.declared.value.Value.{Value}
use Rattle.pk_schema.specs.Shapes.{Shape}
use Rattle.pk_schema.specs.Admits.{Admits}
use Rattle.pk_exec.specs.declared.table_edits.EditedRow.{EditedRow}
use Rattle.pk_exec.specs.Rows.{ids_of}
use Rattle.pk_exec.specs.Bases.{IsRowAdmitted, base_rows, base_entry}
use Rattle.pk_exec.specs.Entries.{Entry, New}
use Rattle.pk_exec.specs.Works.{Edits, TableEdits, edits_at, edited_ids}

-- the first list is a part of the second, in its order
abbrev pub is_part : List ℕ → List ℕ → Bool
is_part [] ks = true
is_part (i ∷ is) [] = false
is_part (i ∷ is) (k ∷ ks) = if i == k then is_part is ks else is_part (i ∷ is) ks

-- each row of the base that is edited is one of these
abbrev pub Covers : Edits → ℕ → List Placed → Type 0
Covers w table rows = is_part (edited_ids w table) (ids_of rows) ≡ true

-- the schema admits the new row of an edit, where there is one
abbrev pub IsAdmitted : Shape → EditedRow → Type 0
IsAdmitted s e = IsRowAdmitted s e.row

abbrev pub AreAdmitted : Shape → TableEdits → Type 0
AreAdmitted s t = All (IsAdmitted s) t.edited × All (Admits s) t.added

-- the schema admits each row that the transaction keeps of the table
abbrev pub Fits : Edits → Shape → ℕ → Type 0
Fits w shape table = AreAdmitted shape (edits_at w table)

-- the rows of the base as the edits leave them
abbrev pub base_entries : List EditedRow → List Placed → List Entry
base_entries es rows = flat_map base_entry (base_rows es rows)

abbrev pub new_entries : List (List Value) → List Entry
new_entries rows = map (λ row. New row) rows

-- what the transaction sees of these rows of the base, and its new rows behind them
unfoldable pub entries_of : Edits → ℕ → List Placed → List Entry
entries_of w table rows = base_entries (edits_at w table).edited rows ++ new_entries (edits_at w table).added

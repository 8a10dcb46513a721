-- What the entries of a transaction change of the base's rows.
use Rattle.std.specs.Prelude.{ℕ, ◌+◌, Bool, false, not, ◌==◌, List, [], ◌∷◌, ◌++◌, length, Option, Some, None}
use Rattle.std.specs.List.{filter, filter_map, list_any}
use Rattle.pk_values.specs.declared.changes.Changes.{Changes}
use Rattle.pk_values.specs.declared.placed.Placed.{Placed}
use Rattle.pk_values.specs.declared.value.Value.{Value}
use Rattle.pk_exec.specs.Rows.{ids_of}
use Rattle.pk_exec.specs.Entries.{Entry, Kept, Touched, New}

-- the entry is of the base's row of this id
abbrev pub is_entry_of : ℕ → Entry → Bool
is_entry_of id (Kept i row) = i == id
is_entry_of id (Touched i row) = i == id
is_entry_of id (New row) = false

-- the ids of the base's rows that no entry has
unfoldable pub gone_ids : List Placed → List Entry → List ℕ
gone_ids rows entries = filter (λ id. not (list_any (is_entry_of id) entries)) (ids_of rows)

abbrev pub touched_row : Entry → Option Placed
touched_row (Kept id row) = None
touched_row (Touched id row) = Some (record { id = id; row = row })
touched_row (New row) = None

-- the changed rows of the base
abbrev pub touched_rows : List Entry → List Placed
touched_rows entries = filter_map touched_row entries

abbrev pub new_row : Entry → Option (List Value)
new_row (Kept id row) = None
new_row (Touched id row) = None
new_row (New row) = Some row

-- the rows that are no row of the base
abbrev pub added_rows : List Entry → List (List Value)
added_rows entries = filter_map new_row entries

-- the rows with ids from this one on
abbrev pub placed_from : ℕ → List (List Value) → List Placed
placed_from id [] = []
placed_from id (row ∷ rows) = record { id = id; row = row } ∷ placed_from (id + 1) rows

-- how many rows are changed: those of the base that are gone, those that are changed, and the new ones
abbrev pub changed_count : List Placed → List Entry → ℕ
changed_count rows entries = length (gone_ids rows entries) + length (touched_rows entries) + length (added_rows entries)

-- what is changed of the base, where new rows get ids from the next one on
abbrev pub changes_of : List Placed → ℕ → List Entry → Changes
changes_of rows next entries =
    record { gone = gone_ids rows entries; put = touched_rows entries ++ placed_from next (added_rows entries) }

-- What a transaction has edited.
use Rattle.std.specs.Prelude.{◌≡◌, ◌≢◌, ℕ, ◌+◌, ◌≤◌, Bool, false, ◌==◌, not, List, [], ◌∷◌, ◌++◌, length, map, sum_by, nat_le, slice_get, if◌then◌else◌}
use Rattle.std.specs.List.{filter, find, position_or_len}
use Rattle.std.specs.Option.{unwrap_or, option_map_or}
use Rattle.std.specs.List.Sorted.{IsStrictlySortedBy}
use Rattle.std.specs.Ordering.{nat_cmp}
use Rattle.pk_values.specs.declared.value.Value.{Value}
use Rattle.pk_exec.specs.declared.table_edits.EditedRow.{EditedRow}

-- the edits of one table: the edited rows of the base in the order of their ids, and the new rows
pub record TableEdits : Type 0 where
  pub table : ℕ
  pub edited : List EditedRow
  pub added : List (List Value)

-- the edits of a transaction, for each table that has some
pub record Edits : Type 0 where
  pub tables : List TableEdits

abbrev pub no_edits : Edits
no_edits = record { tables = [] }

-- ---- the edits of a table

abbrev pub is_for : ℕ → TableEdits → Bool
is_for table t = t.table == table

-- no edits of the table
abbrev pub no_edits_of : ℕ → TableEdits
no_edits_of table = record { table = table; edited = []; added = [] }

-- the edits of the table; none where the transaction has none of it
unfoldable pub edits_at : Edits → ℕ → TableEdits
edits_at w table = unwrap_or (find (is_for table) w.tables) (no_edits_of table)

abbrev pub edit_ids : List EditedRow → List ℕ
edit_ids edits = map (λ (e : EditedRow). e.id) edits

-- the ids of the edited rows of the base
abbrev pub edited_ids : Edits → ℕ → List ℕ
edited_ids w table = edit_ids (edits_at w table).edited

-- the edits of each other table are the same
abbrev pub SameElsewhere : ℕ → Edits → Edits → Type 0
SameElsewhere table old new = (t : ℕ) → t ≢ table → edits_at new t ≡ edits_at old t

-- ---- how much is edited

-- how many rows a transaction may change
abbrev pub most_changes : ℕ
most_changes = 20000

abbrev pub edit_count : TableEdits → ℕ
edit_count t = length t.edited + length t.added

-- how many rows are changed
abbrev pub work_size : Edits → ℕ
work_size w = sum_by edit_count w.tables

-- how many rows of other tables are changed
unfoldable pub size_elsewhere : Edits → ℕ → ℕ
size_elsewhere w table = sum_by edit_count (filter (λ t. not (is_for table t)) w.tables)

abbrev pub has_edits : TableEdits → Bool
has_edits t = not (edit_count t == 0)

-- the tables of which rows are changed
abbrev pub changed_tables : Edits → List ℕ
changed_tables w = map (λ (t : TableEdits). t.table) (filter has_edits w.tables)

-- ---- what works are

-- the tables stand in the order of their numbers, no two for one, and no more rows are changed than may be
pub record IsWork (w : Edits) : Type 0 where
  pub ascend : IsStrictlySortedBy nat_cmp (map (λ (t : TableEdits). t.table) w.tables)
  pub most : work_size w ≤ most_changes

-- the edits with these of one table in place of its own, in the order of the tables' numbers
abbrev pub put_table : TableEdits → List TableEdits → List TableEdits
put_table t [] = t ∷ []
put_table t (u ∷ us) = if nat_le t.table u.table then (if u.table == t.table then t ∷ us else t ∷ u ∷ us) else u ∷ put_table t us

abbrev pub with_table : TableEdits → Edits → Edits
with_table t w = record { tables = put_table t w.tables }

-- the place of the first table with this number or a higher one, or that behind the last
abbrev pub place_in : ℕ → List TableEdits → ℕ
place_in table ts = position_or_len (λ t. nat_le table t.table) ts

-- the edits of the table stand at the place
abbrev pub stands_at : ℕ → List TableEdits → ℕ → Bool
stands_at table ts place = option_map_or (is_for table) (slice_get ts place) false

-- the edits of a table with these new rows behind all others
abbrev pub add_rows : List (List Value) → TableEdits → TableEdits
add_rows rows t = record { table = t.table; edited = t.edited; added = t.added ++ rows }

-- What holds of every answer, in words that don't retrace how it is found. `table_of st name` is the table of that name in the
-- base as it is.
use Rattle.std.specs.Prelude.{◌≡◌, ◌≢◌, ℕ, ◌+◌, ◌<◌, Bool, false, not, List, [], ◌∷◌, ◌++◌, length, map, filter, All, Option, Some, None, if◌then◌else◌}
use Rattle.std.specs.List.Sorted.{IsPermutation, IsSorted, IsStable}
use Rattle.pk_values.specs.declared.placed.Placed.{Placed}
use Rattle.pk_values.specs.declared.refusal.Refusal.{Refusal}
use Rattle.pk_values.specs.declared.value.Value.{Value}
use Rattle.pk_values.specs.Refusals.{first_some}
use Rattle.pk_values.specs.Values.{value_at}
use Rattle.pk_syntax.specs.declared.declaration.TableDecl.{TableDecl}
use Rattle.pk_syntax.specs.declared.edit.Insert.{Insert}
use Rattle.pk_syntax.specs.declared.edit.Update.{Update}
use Rattle.pk_syntax.specs.declared.edit.Delete.{Delete}
use Rattle.pk_syntax.specs.declared.declaration.ColumnDecl.{ColumnDecl}
use Rattle.pk_syntax.specs.declared.query.Select.{Select}
use Rattle.pk_syntax.specs.declared.query.What.TheVariants as whats
use Rattle.pk_syntax.specs.declared.statement.Statement.{Statement}
use Rattle.pk_syntax.specs.Declarations.{names_of}
use Rattle.pk_syntax.specs.Given.{IsGiven}
use Rattle.pk_syntax.specs.declared.statement.Statement.TheVariants as statements
use Rattle.pk_report.specs.declared.reply.Reply.TheVariants as replies
use Rattle.pk_schema.specs.Shapes.{shape_of}
use Rattle.pk_bind.specs.declared.edit.Edit.{Edit}
use Rattle.pk_bind.specs.declared.edit.SetTo.{SetTo}
use Rattle.pk_bind.specs.declared.selection.OrderBy.{OrderBy}
use Rattle.pk_bind.specs.Columns.{column_at}
use Rattle.pk_bind.specs.Conditions.{cond_asked}
use Rattle.pk_bind.specs.Fitting.{with_sets}
use Rattle.pk_bind.specs.Insert.{new_rows}
use Rattle.pk_bind.specs.Select.{select_refusals, order_of}
use Rattle.pk_bind.specs.Update.{edit_of}
use Rattle.pk_exec.specs.Changes.{added_rows, placed_from}
use Rattle.pk_exec.specs.Edits.{takes}
use Rattle.pk_exec.specs.Entries.{Entry}
use Rattle.pk_exec.specs.Refusals.{work_insert_refusals, work_update_refusals}
use Rattle.pk_exec.specs.Rows.{ids_of}
use Rattle.pk_exec.specs.Selecting.{row_cmp, sorted_by}
use Rattle.pk_engine.specs.Base.{Table}
use Rattle.pk_engine.specs.State.{State, current}
use Rattle.pk_engine.specs.Refusing.{table_of}
use Rattle.pk_engine.specs.Edits.{changes_in, with_changes, entries_in, insert_entries, update_entries, delete_entries}
use Rattle.pk_engine.specs.Entries.{Follow, placed, AreOf}
use Rattle.pk_engine.specs.Valid.{IsValid, IsValidTable}
use Rattle.pk_engine.specs.Answer.{answer}

-- ---- what leaves the state as it is

-- a SELECT changes nothing
abbrev pub SelectsChangeNothing : Type 0
SelectsChangeNothing = (st : State) (s : Select) → (answer st (statements.Select s)).next ≡ st

-- nor does a statement that is refused
abbrev pub RefusalsChangeNothing : Type 0
RefusalsChangeNothing = (st : State) (s : Statement) (r : Refusal) → (answer st s).reply ≡ replies.Refused r → (answer st s).next ≡ st

-- the name of the table that a statement makes, drops or changes
abbrev pub table_changed : Statement → Option (List ℕ)
table_changed (statements.Create d) = Some d.table
table_changed (statements.Drop name) = Some name
table_changed (statements.Insert i) = Some i.table
table_changed (statements.Update u) = Some u.table
table_changed (statements.Delete d) = Some d.table
table_changed _ = None

-- every other table is after a statement as it was before
abbrev pub OtherTablesStay : Type 0
OtherTablesStay = (st : State) (s : Statement) (name : List ℕ) → table_changed s ≢ Some name → table_of (answer st s).next name ≡ table_of st name

-- ---- tables made and dropped

-- a table that was created is there: it has the declared columns and keys, and no row
abbrev pub CreatedTablesAreThere : Type 0
CreatedTablesAreThere = (st : State) (d : TableDecl) (name : List ℕ) → (answer st (statements.Create d)).reply ≡ replies.Created name
    → (name ≡ d.table) × (table_of (answer st (statements.Create d)).next name ≡ Some (record { name = name; shape = shape_of d; next = 1; rows = [] }))

-- a table that was dropped is there no more
abbrev pub DroppedTablesAreGone : Type 0
DroppedTablesAreGone = (st : State) (asked name : List ℕ) → IsValid (current st) → (answer st (statements.Drop asked)).reply ≡ replies.Dropped name
    → (name ≡ asked) × (table_of (answer st (statements.Drop asked)).next name ≡ None)

-- ---- rows changed

-- the table of this name before a statement, and the one after it, stand so to each other
abbrev pub Becomes : State → Statement → List ℕ → (Table → Table → Type 0) → Type 0
Becomes st s name R = (old : Table) × (new : Table) × (table_of st name ≡ Some old) × (table_of (answer st s).next name ≡ Some new) × R old new

-- so many rows are new: they stand behind the old ones, under the next ids
pub record HasAdded (rows : List (List Value)) (n : ℕ) (old new : Table) : Type 0 where
  pub count : n ≡ length rows
  pub table : new ≡ record old { next = old.next + n; rows = old.rows ++ placed_from old.next rows }

-- INSERT adds a row for each tuple, and changes no other row
abbrev pub InsertsAddRows : Type 0
InsertsAddRows = (st : State) (i : Insert) (n : ℕ) → IsValid (current st) → (answer st (statements.Insert i)).reply ≡ replies.Inserted n
    → (n ≡ length i.rows) × Becomes st (statements.Insert i) i.table (λ old new. HasAdded (new_rows old.shape.columns i) n old new)

-- the row, with its new values where the condition takes it
abbrev pub set_placed : Edit → Placed → Placed
set_placed e p = if takes e.cond p.row then record p { row = with_sets e.sets p.row } else p

-- so many rows are set, those that the condition takes; every row keeps its id and its place, and the others their values
pub record HasSet (e : Edit) (n : ℕ) (old new : Table) : Type 0 where
  pub count : n ≡ length (filter (λ (p : Placed). takes e.cond p.row) old.rows)
  pub table : new ≡ record old { rows = map (set_placed e) old.rows }
  pub ids : ids_of new.rows ≡ ids_of old.rows

-- UPDATE sets the rows that its condition takes, and changes no other row
abbrev pub UpdatesSetRows : Type 0
UpdatesSetRows = (st : State) (u : Update) (n : ℕ) → IsValid (current st) → (answer st (statements.Update u)).reply ≡ replies.Updated n
    → Becomes st (statements.Update u) u.table (λ old new. HasSet (edit_of old.shape.columns u) n old new)

-- a column that isn't set keeps its value
abbrev pub OtherColumnsStay : Type 0
OtherColumnsStay = (sets : List SetTo) (row : List Value) (c : ℕ) → All (λ (s : SetTo). s.column ≢ c) sets → value_at (with_sets sets row) c ≡ value_at row c

-- a column that is set has the value that it is set to last
abbrev pub SetColumnsAreSet : Type 0
SetColumnsAreSet = (before behind : List SetTo) (s : SetTo) (row : List Value) → s.column < length row → All (λ (other : SetTo). other.column ≢ s.column) behind
    → value_at (with_sets (before ++ s ∷ behind) row) s.column ≡ s.value

-- so many rows are gone, those that meet the condition; the others stand as they stood, and none of them meets it
pub record HasTaken (meets : List Value → Bool) (n : ℕ) (old new : Table) : Type 0 where
  pub count : n ≡ length (filter (λ (p : Placed). meets p.row) old.rows)
  pub table : new ≡ record old { rows = filter (λ (p : Placed). not (meets p.row)) old.rows }
  pub left : All (λ (p : Placed). meets p.row ≡ false) new.rows

-- DELETE takes out the rows that its condition takes, and changes no other row
abbrev pub DeletesLeaveTheRest : Type 0
DeletesLeaveTheRest = (st : State) (d : Delete) (n : ℕ) → IsValid (current st) → (answer st (statements.Delete d)).reply ≡ replies.Deleted n
    → Becomes st (statements.Delete d) d.table (λ old new. HasTaken (takes (cond_asked old.shape.columns d.cond)) n old new)

-- what INSERT, UPDATE and DELETE that aren't refused change of a table is what some entries change of it, each with a row that it may have
pub record EditsAreOfEntries (t : Table) : Type 0 where
  pub inserts : (i : Insert) → IsGiven (statements.Insert i) → first_some (work_insert_refusals t.shape 0 i) ≡ None → AreOf t (changes_in t (insert_entries t i))
  pub updates : (u : Update) → IsGiven (statements.Update u) → first_some (work_update_refusals t.shape 0 t.rows (entries_in t) u) ≡ None → AreOf t (changes_in t (update_entries t u))
  pub deletes : (d : Delete) → AreOf t (changes_in t (delete_entries t d))

abbrev pub StatementsMakeEntries : Type 0
StatementsMakeEntries = (t : Table) → IsValidTable t → EditsAreOfEntries t

-- the changes of any entries over the rows of a table leave exactly the rows of the entries
abbrev pub EntriesAreCommitted : Type 0
EntriesAreCommitted = (st : State) (name : List ℕ) (t : Table) (entries : List Entry) → IsValid (current st) → table_of st name ≡ Some t → Follow t.rows entries
    → table_of (with_changes st t (changes_in t entries)) name ≡ Some (record t { next = t.next + length (added_rows entries); rows = placed t.next entries })

-- ---- rows told

-- the rows of the table that meet the condition of a SELECT
abbrev pub rows_met : Table → Select → List (List Value)
rows_met t s = filter (takes (cond_asked t.shape.columns s.cond)) (map (λ (p : Placed). p.row) t.rows)

-- the columns by which a SELECT puts rows in order
abbrev pub order_asked : Table → Select → List OrderBy
order_asked t s = map (order_of t.shape.columns) s.order

-- the values of a row in the columns of these names
abbrev pub values_under : List ColumnDecl → List (List ℕ) → List Value → List Value
values_under columns names row = map (λ name. value_at row (column_at columns name)) names

-- SELECT of columns that isn't refused tells their values in the rows that meet its condition, under their names and in its order
abbrev pub SelectsTellTheirRows : Type 0
SelectsTellTheirRows = (st : State) (s : Select) (t : Table) (names : List (List ℕ)) → table_of st s.table ≡ Some t → first_some (select_refusals t.shape s) ≡ None
    → s.what ≡ whats.Columns names
    → (answer st (statements.Select s)).reply ≡ replies.Selected names (map (values_under t.shape.columns names) (sorted_by (order_asked t s) (rows_met t s)))

-- SELECT * that isn't refused tells the whole rows, under the names of all columns
abbrev pub WholeRowsAreTold : Type 0
WholeRowsAreTold = (st : State) (s : Select) (t : Table) → IsValid (current st) → table_of st s.table ≡ Some t → first_some (select_refusals t.shape s) ≡ None
    → s.what ≡ whats.All → (answer st (statements.Select s)).reply ≡ replies.Selected (names_of t.shape.columns) (sorted_by (order_asked t s) (rows_met t s))

-- the same rows, of which none comes before one that stands in front of it, and those that tie stand as they stood
pub record IsInOrder (order : List OrderBy) (rows ordered : List (List Value)) : Type 0 where
  pub same : IsPermutation rows ordered
  pub sorted : IsSorted (row_cmp order) ordered
  pub stable : IsStable (row_cmp order) rows ordered

-- ORDER BY only moves rows, and puts them in order
abbrev pub RowsArePutInOrder : Type 0
RowsArePutInOrder = (order : List OrderBy) (rows : List (List Value)) → IsInOrder order rows (sorted_by order rows)

-- COUNT(*) is the number of the rows that the same SELECT shows
abbrev pub CountsAreOfTheRowsShown : Type 0
CountsAreOfTheRowsShown = (st : State) (s : Select) (header : List (List ℕ)) (rows : List (List Value)) → (answer st (statements.Select s)).reply ≡ replies.Selected header rows
    → (answer st (statements.Select (record s { what = whats.Count }))).reply ≡ replies.Count (length rows)

-- What holds of each statement that is bound, whatever the schema.
use Rattle.std.specs.Prelude.{◌≡◌, ℕ, ◌≤◌, true, false, ◌&&◌, List, length, Option, Some, None, All, slice_get}
use Rattle.std.specs.List.{list_all}
use Rattle.pk_values.specs.declared.value.Value.{Value}
use Rattle.pk_values.specs.declared.value.Value.TheVariants as values
use Rattle.pk_values.specs.Records.{row_record}
use Rattle.pk_values.specs.Refusals.{first_some}
use Rattle.pk_syntax.specs.declared.declaration.ColumnDecl.{ColumnDecl}
use Rattle.pk_syntax.specs.declared.edit.Delete.{Delete}
use Rattle.pk_syntax.specs.declared.edit.Insert.{Insert}
use Rattle.pk_syntax.specs.declared.edit.SetPart.{SetPart}
use Rattle.pk_syntax.specs.declared.edit.Update.{Update}
use Rattle.pk_syntax.specs.declared.literal.Literal.{Literal}
use Rattle.pk_syntax.specs.declared.query.Select.{Select}
use Rattle.pk_syntax.specs.Declarations.{has_name, names_of}
use Rattle.pk_syntax.specs.Given.{has_utf8, cond_has_utf8}
use Rattle.pk_logic.specs.declared.condition.Cond.{Cond}
use Rattle.pk_logic.specs.Conditions.{is_judgeable}
use Rattle.pk_schema.specs.Shapes.{Shape, IsShape, place_of_column, column_named}
use Rattle.pk_schema.specs.Admits.{Admits}
use Rattle.pk_bind.specs.declared.edit.Edit.{Edit}
use Rattle.pk_bind.specs.Columns.{no_column, column_at}
use Rattle.pk_bind.specs.Literals.{stored_value}
use Rattle.pk_bind.specs.Conditions.{cond_asked}
use Rattle.pk_bind.specs.Insert.{insert_refusals, new_rows}
use Rattle.pk_bind.specs.Update.{update_refusals, edit_of}
use Rattle.pk_bind.specs.Delete.{delete_refusals}
use Rattle.pk_bind.specs.Select.{select_refusals, selection_of}
use Rattle.pk_bind.specs.Fitting.{cond_fits, edit_fits, selection_fits, with_sets}

-- ---- columns

-- a name that isn't refused is that of a column, which stands at the name's place
abbrev pub NamedColumnsAreFound : Type 0
NamedColumnsAreFound = (columns : List ColumnDecl) (table name : List ℕ) → no_column columns table name ≡ None
    → (c : ColumnDecl) × (column_named columns name ≡ Some c) × (slice_get columns (column_at columns name) ≡ Some c)

-- ---- INSERT

-- an INSERT makes as many rows as it has tuples
abbrev pub AsManyRowsAsTuples : Type 0
AsManyRowsAsTuples = (columns : List ColumnDecl) (i : Insert) → length (new_rows columns i) ≡ length i.rows

-- the names of the columns for which the literals of a tuple are listed, in their order; those of all columns where none are
abbrev pub listed_names : List ColumnDecl → Option (List (List ℕ)) → List (List ℕ)
listed_names columns None = names_of columns
listed_names columns (Some names) = names

-- a tuple has a literal for each listed name, each stands in the row at the place of the column of its name, and a column that
-- isn't listed has null
pub record Lands (columns : List ColumnDecl) (names : List (List ℕ)) (tuple : List Literal) (row : List Value) : Type 0 where
  pub counted : length tuple ≡ length names
  pub listed : (k : ℕ) (name : List ℕ) (literal : Literal) → slice_get names k ≡ Some name → slice_get tuple k ≡ Some literal
      → (c : ℕ) × (place_of_column columns name ≡ Some c) × (slice_get row c ≡ Some (stored_value literal))
  pub others : (c : ℕ) (column : ColumnDecl) → slice_get columns c ≡ Some column → has_name names column.name ≡ false
      → slice_get row c ≡ Some values.Null

-- a literal of an INSERT that isn't refused lands in the column that is listed for it
abbrev pub LiteralsLandInTheirColumns : Type 0
LiteralsLandInTheirColumns = (s : Shape) (i : Insert) (n : ℕ) (tuple : List Literal) (row : List Value) → IsShape s → first_some (insert_refusals s i) ≡ None
    → slice_get i.rows n ≡ Some tuple → slice_get (new_rows s.columns i) n ≡ Some row → Lands s.columns (listed_names s.columns i.columns) tuple row

-- the schema admits each row of an INSERT that isn't refused
abbrev pub NewRowsAreAdmitted : Type 0
NewRowsAreAdmitted = (s : Shape) (i : Insert) → IsShape s → list_all (list_all has_utf8) i.rows ≡ true → first_some (insert_refusals s i) ≡ None
    → All (Admits s) (new_rows s.columns i)

-- ---- what is ready

-- what an UPDATE that isn't refused changes fits the columns
abbrev pub EditsFit : Type 0
EditsFit = (s : Shape) (u : Update) → (list_all (λ (part : SetPart). has_utf8 part.value) u.sets && cond_has_utf8 u.cond) ≡ true
    → first_some (update_refusals s u) ≡ None → edit_fits s.columns (edit_of s.columns u) ≡ true

-- the condition of a DELETE that isn't refused is over the kinds of the columns
abbrev pub ConditionsFit : Type 0
ConditionsFit = (s : Shape) (d : Delete) → cond_has_utf8 d.cond ≡ true → first_some (delete_refusals s d) ≡ None
    → cond_fits s.columns (cond_asked s.columns d.cond) ≡ true

-- what a SELECT that isn't refused asks for fits the columns
abbrev pub SelectionsFit : Type 0
SelectionsFit = (s : Shape) (q : Select) → cond_has_utf8 q.cond ≡ true → first_some (select_refusals s q) ≡ None
    → selection_fits s.columns (selection_of s.columns q) ≡ true

-- a condition that fits may be judged on each row that the schema admits
abbrev pub ConditionsAreJudgeable : Type 0
ConditionsAreJudgeable = (s : Shape) (row : List Value) (cond : Cond) → Admits s row → cond_fits s.columns (Some cond) ≡ true
    → is_judgeable row cond ≡ true

-- an admitted row with new values in its columns is admitted, if it isn't too long
abbrev pub SetRowsAreAdmitted : Type 0
SetRowsAreAdmitted = (s : Shape) (row : List Value) (e : Edit) → Admits s row → edit_fits s.columns e ≡ true
    → length (row_record (with_sets e.sets row)) ≤ 4000 → Admits s (with_sets e.sets row)

-- What a SELECT is refused for, and what it asks for.
use Rattle.std.specs.Prelude.{ℕ, List, [], ◌∷◌, length, map, Option, None}
use Rattle.std.specs.List.{range_with_len}
use Rattle.pk_values.specs.declared.refusal.Refusal.{Refusal}
use Rattle.pk_values.specs.Refusals.{or_else, first_by}
use Rattle.pk_syntax.specs.declared.declaration.ColumnDecl.{ColumnDecl}
use Rattle.pk_syntax.specs.declared.query.OrderPart.{OrderPart}
use Rattle.pk_syntax.specs.declared.query.Select.{Select}
use Rattle.pk_syntax.specs.declared.query.What.{What}
use Rattle.pk_syntax.specs.declared.query.What.TheVariants.{All, Columns, Count}
use Rattle.pk_schema.specs.Shapes.{Shape}
use Rattle.pk_bind.specs.declared.selection.OrderBy.{OrderBy}
use Rattle.pk_bind.specs.declared.selection.Selection.{Selection}
use Rattle.pk_bind.specs.declared.selection.Shown.{Shown}
use Rattle.pk_bind.specs.declared.selection.Shown.TheVariants as showing
use Rattle.pk_bind.specs.declared.searching.Search.TheVariants as searches
use Rattle.pk_bind.specs.Columns.{no_column, column_at}
use Rattle.pk_bind.specs.Conditions.{cond_fault, cond_asked}

-- a column that is asked for is no column of the table
abbrev pub missing_shown : List ColumnDecl → List ℕ → What → Option Refusal
missing_shown columns table All = None
missing_shown columns table (Columns names) = first_by (no_column columns table) names
missing_shown columns table Count = None

-- a column by which rows are put in order is no column of the table
abbrev pub missing_order : List ColumnDecl → List ℕ → List OrderPart → Option Refusal
missing_order columns table order = first_by (λ (part : OrderPart). no_column columns table part.column) order

-- a name is no column of the table: those asked for, then those of the condition, then those of the order
abbrev pub missing_from : List ColumnDecl → Select → Option Refusal
missing_from columns s =
    or_else (missing_shown columns s.table s.what)
    (or_else (cond_fault searches.Missing columns s.table s.cond) (missing_order columns s.table s.order))

-- what a SELECT is refused for, in this order
unfoldable pub select_refusals : Shape → Select → List (Option Refusal)
select_refusals shape s =
    missing_from shape.columns s
    ∷ cond_fault searches.Kind shape.columns s.table s.cond
    ∷ cond_fault searches.Wide shape.columns s.table s.cond
    ∷ cond_fault searches.Length shape.columns s.table s.cond
    ∷ []

-- the columns that are shown, by their places: all of them in the table's order, or those of these names in theirs
abbrev pub shown_of : List ColumnDecl → What → Shown
shown_of columns All = showing.Columns (range_with_len 0 (length columns))
shown_of columns (Columns names) = showing.Columns (map (column_at columns) names)
shown_of columns Count = showing.Count

abbrev pub order_of : List ColumnDecl → OrderPart → OrderBy
order_of columns part = record { column = column_at columns part.column; down = part.down }

-- what a SELECT asks for
unfoldable pub selection_of : List ColumnDecl → Select → Selection
selection_of columns s =
    record { cond = cond_asked columns s.cond; shown = shown_of columns s.what; order = map (order_of columns) s.order }

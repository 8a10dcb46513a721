-- What is ready may be done on each row that the schema admits.
use Rattle.std.specs.Prelude.{Bool, true, false, not, ◌&&◌, List, [], ◌∷◌, length, Option, Some, None, nat_lt, slice_get, slice_set}
use Rattle.std.specs.List.{list_all}
use Rattle.pk_values.specs.declared.value.Value.{Value}
use Rattle.pk_syntax.specs.declared.declaration.ColumnDecl.{ColumnDecl}
use Rattle.pk_logic.specs.declared.condition.Cond.{Cond}
use Rattle.pk_logic.specs.Kinds.{is_over_kinds}
use Rattle.pk_schema.specs.Shapes.{kinds_of}
use Rattle.pk_schema.specs.Admits.{has_other_kind, is_long, is_missing}
use Rattle.pk_bind.specs.declared.edit.Edit.{Edit}
use Rattle.pk_bind.specs.declared.edit.SetTo.{SetTo}
use Rattle.pk_bind.specs.declared.selection.OrderBy.{OrderBy}
use Rattle.pk_bind.specs.declared.selection.Selection.{Selection}
use Rattle.pk_bind.specs.declared.selection.Shown.{Shown}
use Rattle.pk_bind.specs.declared.selection.Shown.TheVariants.{Columns, Count}

-- the condition, where there is one, is over the kinds of the columns
abbrev pub cond_fits : List ColumnDecl → Option Cond → Bool
cond_fits columns None = true
cond_fits columns (Some cond) = is_over_kinds (kinds_of columns) cond

-- the column may hold the value: nothing is wrong with it there
abbrev pub may_hold : ColumnDecl → Value → Bool
may_hold c value = not (has_other_kind c value) && not (is_long c value) && not (is_missing c value)

abbrev pub holds_at : Option ColumnDecl → Value → Bool
holds_at None value = false
holds_at (Some c) value = may_hold c value

-- there is such a column, and it may hold its new value
abbrev pub set_fits : List ColumnDecl → SetTo → Bool
set_fits columns s = holds_at (slice_get columns s.column) s.value

abbrev pub edit_fits : List ColumnDecl → Edit → Bool
edit_fits columns e = list_all (set_fits columns) e.sets && cond_fits columns e.cond

abbrev pub shown_fits : List ColumnDecl → Shown → Bool
shown_fits columns (Columns shown) = list_all (λ c. nat_lt c (length columns)) shown
shown_fits columns Count = true

abbrev pub order_fits : List ColumnDecl → List OrderBy → Bool
order_fits columns order = list_all (λ (part : OrderBy). nat_lt part.column (length columns)) order

abbrev pub selection_fits : List ColumnDecl → Selection → Bool
selection_fits columns s = cond_fits columns s.cond && shown_fits columns s.shown && order_fits columns s.order

-- the row with each new value put into its column, from left to right
abbrev pub with_sets : List SetTo → List Value → List Value
with_sets [] row = row
with_sets (s ∷ sets) row = with_sets sets (slice_set row s.column s.value)

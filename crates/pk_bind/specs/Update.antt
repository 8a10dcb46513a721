-- What an UPDATE is refused for, and what it changes.
use Rattle.std.specs.Prelude.{List, [], ◌∷◌, map, Option, Some, None}
use Rattle.std.specs.Option.{option_map}
use Rattle.pk_values.specs.declared.refusal.Refusal.{Refusal}
use Rattle.pk_values.specs.declared.refusal.Refusal.TheVariants.{ColumnTwice}
use Rattle.pk_values.specs.Refusals.{or_else, first_by}
use Rattle.pk_syntax.specs.declared.declaration.ColumnDecl.{ColumnDecl}
use Rattle.pk_syntax.specs.declared.edit.SetPart.{SetPart}
use Rattle.pk_syntax.specs.declared.edit.Update.{Update}
use Rattle.pk_syntax.specs.declared.literal.Literal.{Literal}
use Rattle.pk_syntax.specs.Declarations.{twice}
use Rattle.pk_schema.specs.Shapes.{Shape, column_named}
use Rattle.pk_bind.specs.declared.edit.Edit.{Edit}
use Rattle.pk_bind.specs.declared.edit.SetTo.{SetTo}
use Rattle.pk_bind.specs.declared.literals.Check.{Check}
use Rattle.pk_bind.specs.declared.literals.Check.TheVariants as checks
use Rattle.pk_bind.specs.declared.searching.Search.{Search}
use Rattle.pk_bind.specs.declared.searching.Search.TheVariants as searches
use Rattle.pk_bind.specs.Columns.{no_column, column_at}
use Rattle.pk_bind.specs.Literals.{stored_fault, stored_value}
use Rattle.pk_bind.specs.Conditions.{cond_fault, cond_asked}

-- a name is no column of the table: those that are set, then those of the condition
abbrev pub missing_from : List ColumnDecl → Update → Option Refusal
missing_from columns u =
    or_else (first_by (λ (s : SetPart). no_column columns u.table s.column) u.sets) (cond_fault searches.Missing columns u.table u.cond)

-- a column that is to be set is set twice
unfoldable pub set_twice : List SetPart → Option Refusal
set_twice sets = option_map (λ name. ColumnTwice name) (twice (map (λ (s : SetPart). s.column) sets))

abbrev pub found_fault : Check → Option ColumnDecl → Literal → Option Refusal
found_fault check None literal = None
found_fault check (Some c) literal = stored_fault check c literal

-- what a check finds in the literal that the column is set to
abbrev pub set_fault : Check → List ColumnDecl → SetPart → Option Refusal
set_fault check columns s = found_fault check (column_named columns s.column) s.value

-- what is found in the literals that columns are set to, or else in the condition
abbrev pub judged : Check → Search → List ColumnDecl → Update → Option Refusal
judged check search columns u = or_else (first_by (set_fault check columns) u.sets) (cond_fault search columns u.table u.cond)

-- what an UPDATE is refused for, in this order
unfoldable pub update_refusals : Shape → Update → List (Option Refusal)
update_refusals s u =
    missing_from s.columns u
    ∷ set_twice u.sets
    ∷ judged checks.Kind searches.Kind s.columns u
    ∷ judged checks.Wide searches.Wide s.columns u
    ∷ judged checks.Length searches.Length s.columns u
    ∷ first_by (set_fault checks.Null s.columns) u.sets
    ∷ []

-- a column by its place, and its new value
abbrev pub set_of : List ColumnDecl → SetPart → SetTo
set_of columns s = record { column = column_at columns s.column; value = stored_value s.value }

-- what an UPDATE changes, and in which rows
unfoldable pub edit_of : List ColumnDecl → Update → Edit
edit_of columns u = record { sets = map (set_of columns) u.sets; cond = cond_asked columns u.cond }

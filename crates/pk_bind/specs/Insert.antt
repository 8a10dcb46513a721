-- What an INSERT is refused for, and its rows.
use Rattle.std.specs.Prelude.{ℕ, Bool, ◌==◌, ◌&&◌, List, [], ◌∷◌, ◌++◌, length, map, Option, Some, None, is_none, nat_le, slice_get, if◌then◌else◌}
use Rattle.std.specs.Option.{option_map, option_map_or}
use Rattle.std.specs.List.{filter_map, find, zip}
use Rattle.pk_values.specs.declared.value.Value.{Value}
use Rattle.pk_values.specs.declared.value.Value.TheVariants as values
use Rattle.pk_values.specs.declared.refusal.Refusal.{Refusal}
use Rattle.pk_values.specs.declared.refusal.Refusal.TheVariants.{ColumnTwice, ValueCount, NullValue, LongRow}
use Rattle.pk_values.specs.Records.{row_record}
use Rattle.pk_values.specs.Refusals.{or_else, first_by}
use Rattle.pk_syntax.specs.declared.declaration.ColumnDecl.{ColumnDecl}
use Rattle.pk_syntax.specs.declared.edit.Insert.{Insert}
use Rattle.pk_syntax.specs.declared.literal.Literal.{Literal}
use Rattle.pk_syntax.specs.Declarations.{twice}
use Rattle.pk_schema.specs.Shapes.{Shape, place_of_column, column_named}
use Rattle.pk_bind.specs.declared.literals.Check.{Check}
use Rattle.pk_bind.specs.declared.literals.Check.TheVariants.{Kind, Wide, Length, Null}
use Rattle.pk_bind.specs.Columns.{no_column}
use Rattle.pk_bind.specs.Literals.{stored_fault, stored_value}

-- the columns to which the literals of a tuple go, in their order: those that are listed, or all
abbrev pub targets : List ColumnDecl → Option (List (List ℕ)) → List ColumnDecl
targets columns None = columns
targets columns (Some names) = filter_map (column_named columns) names

-- ---- refusals

-- a listed name is no column of the table
unfoldable pub missing_target : List ColumnDecl → List ℕ → Option (List (List ℕ)) → Option Refusal
missing_target columns table None = None
missing_target columns table (Some names) = first_by (no_column columns table) names

-- a column is listed twice
unfoldable pub target_twice : Option (List (List ℕ)) → Option Refusal
target_twice None = None
target_twice (Some names) = option_map (λ name. ColumnTwice name) (twice names)

-- a tuple hasn't one literal for each of so many columns
abbrev pub miscounted : ℕ → List Literal → Option Refusal
miscounted columns row = if length row == columns then None else Some (ValueCount (length row) columns)

-- the first literal of a tuple in which the check finds a fault
abbrev pub tuple_fault : Check → List ColumnDecl → List Literal → Option Refusal
tuple_fault check listed row = first_by (λ pair. stored_fault check pair.0 pair.1) (zip listed row)

-- it is without null and isn't listed, and so would get one
abbrev pub is_left_null : List ColumnDecl → ColumnDecl → Bool
is_left_null listed c = c.not_null && is_none (place_of_column listed c.name)

-- a column without null gets null: first of the listed ones in the list's order, then of the others in the table's
abbrev pub null_value : List ColumnDecl → List ColumnDecl → List Literal → Option Refusal
null_value columns listed row =
    or_else (tuple_fault Null listed row) (option_map (λ (c : ColumnDecl). NullValue c.name) (find (is_left_null listed) columns))

-- a row of more than 4,000 bytes
abbrev pub long_row : List Value → Option Refusal
long_row row = if nat_le (length (row_record row)) 4000 then None else Some (LongRow (length (row_record row)))

-- ---- rows

-- the literal at a place of a tuple, stored; null where there is none
abbrev pub given : List Literal → Option ℕ → Value
given row None = values.Null
given row (Some place) = option_map_or stored_value (slice_get row place) values.Null

-- for each column of the table, the place of its literal in a tuple for these columns
abbrev pub sources : List ColumnDecl → List ColumnDecl → List (Option ℕ)
sources columns listed = map (λ (c : ColumnDecl). place_of_column listed c.name) columns

-- the row of a tuple whose literals go to the columns from these places
unfoldable pub made_row : List (Option ℕ) → List Literal → List Value
made_row places row = map (given row) places

-- the rows that tuples for these columns make: a column that isn't listed gets null
abbrev pub made_rows : List ColumnDecl → List ColumnDecl → List (List Literal) → List (List Value)
made_rows columns listed rows = map (made_row (sources columns listed)) rows

-- the rows of an INSERT
unfoldable pub new_rows : List ColumnDecl → Insert → List (List Value)
new_rows columns i = made_rows columns (targets columns i.columns) i.rows

-- ---- the order of the refusals

-- what the listed columns are refused for, in this order
abbrev pub targets_refusals : List ColumnDecl → Insert → List (Option Refusal)
targets_refusals columns i = missing_target columns i.table i.columns ∷ target_twice i.columns ∷ []

-- what the literals of tuples for these listed columns are refused for, in this order
abbrev pub literals_refusals : List ColumnDecl → List ColumnDecl → List (List Literal) → List (Option Refusal)
literals_refusals columns listed rows =
    first_by (miscounted (length listed)) rows
    ∷ first_by (tuple_fault Kind listed) rows
    ∷ first_by (tuple_fault Wide listed) rows
    ∷ first_by (tuple_fault Length listed) rows
    ∷ first_by (null_value columns listed) rows
    ∷ []

-- what tuples for these listed columns are refused for, in this order
abbrev pub tuples_refusals : List ColumnDecl → List ColumnDecl → List (List Literal) → List (Option Refusal)
tuples_refusals columns listed rows = literals_refusals columns listed rows ++ first_by long_row (made_rows columns listed rows) ∷ []

-- what an INSERT is refused for, in this order
unfoldable pub insert_refusals : Shape → Insert → List (Option Refusal)
insert_refusals s i = targets_refusals s.columns i ++ tuples_refusals s.columns (targets s.columns i.columns) i.rows

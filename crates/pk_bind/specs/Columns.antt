-- Columns that a statement names.
use Rattle.std.specs.Prelude.{ℕ, List, Option, Some, None}
use Rattle.std.specs.Option.{unwrap_or}
use Rattle.pk_values.specs.declared.refusal.Refusal.{Refusal}
use Rattle.pk_values.specs.declared.refusal.Refusal.TheVariants.{NoColumn}
use Rattle.pk_syntax.specs.declared.declaration.ColumnDecl.{ColumnDecl}
use Rattle.pk_schema.specs.Shapes.{place_of_column, column_named}

abbrev pub unless_found : List ℕ → List ℕ → Option ColumnDecl → Option Refusal
unless_found table name (Some c) = None
unless_found table name None = Some (NoColumn name table)

-- the name is no column of the table
abbrev pub no_column : List ColumnDecl → List ℕ → List ℕ → Option Refusal
no_column columns table name = unless_found table name (column_named columns name)

-- the place of the column of this name; a name that is no column is refused, so that its place is never used
abbrev pub column_at : List ColumnDecl → List ℕ → ℕ
column_at columns name = unwrap_or (place_of_column columns name) 0

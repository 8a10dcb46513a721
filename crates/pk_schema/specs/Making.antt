use Rattle.std.specs.Prelude.{◌≡◌, Bool, List, [], ◌∷◌, Option, Some, None, Result, Ok, Err, if◌then◌else◌}
use Rattle.std.specs.Option.{option_map}
use Rattle.pk_values.specs.declared.refusal.LimitName.{LimitName}
use Rattle.pk_values.specs.declared.refusal.LimitName.TheVariants.{Name, Columns, Keys, Nullable}
use Rattle.pk_values.specs.declared.refusal.Refusal.{Refusal}
use Rattle.pk_values.specs.declared.refusal.Refusal.TheVariants.{NoColumn, ColumnTwice, Limit}
use Rattle.pk_values.specs.Refusals.{first_some}
use Rattle.pk_syntax.specs.declared.declaration.TableDecl.{TableDecl}
use Rattle.pk_syntax.specs.Declarations.{missing_column, column_twice, names_are_short, columns_are_few, keys_are_few, nullable_are_few}
use Rattle.pk_schema.specs.Shapes.{Shape, shape_of}
use Rattle.pk_schema.specs.declared.making.MakeErr.{MakeErr}
use Rattle.pk_schema.specs.declared.making.MakeErr.TheVariants.{Refused, Memory}

-- a key names what is no column
unfoldable pub no_column : TableDecl → Option Refusal
no_column decl = option_map (λ name. NoColumn name decl.table) (missing_column decl)

-- a column stands twice
unfoldable pub declared_twice : TableDecl → Option Refusal
declared_twice decl = option_map (λ name. ColumnTwice name) (column_twice decl)

-- the limit is passed unless this holds
abbrev pub limit_unless : LimitName → Bool → Option Refusal
limit_unless what within = if within then None else Some (Limit what)

-- what a declaration is refused for, in this order
abbrev pub schema_refusals : TableDecl → List (Option Refusal)
schema_refusals decl =
    no_column decl
    ∷ declared_twice decl
    ∷ limit_unless Name (names_are_short decl)
    ∷ limit_unless Columns (columns_are_few decl)
    ∷ limit_unless Keys (keys_are_few decl)
    ∷ limit_unless Nullable (nullable_are_few decl)
    ∷ []

-- the shape of the declaration, or the first refusal that stands, unless memory ran out
abbrev pub Makes : TableDecl → Result Shape MakeErr → Type 0
Makes decl (Ok s) = (first_some (schema_refusals decl) ≡ None) × (s ≡ shape_of decl)
Makes decl (Err (Refused r)) = first_some (schema_refusals decl) ≡ Some r
Makes decl (Err Memory) = Unit {0}

use Rattle.std.specs.Prelude.{◌≡◌, ℕ, ◌^◌, ◌≤◌, ◌<◌, Bool, true, false, not, List, length, Some, None, slice_get, IsTrue}
use Rattle.std.specs.List.{list_all, zip}
use Rattle.std.specs.Option.{option_map_or}
use Rattle.pk_values.specs.declared.refusal.LimitName.TheVariants.{Name, Columns, Keys, Nullable}
use Rattle.pk_values.specs.declared.refusal.Refusal.TheVariants.{NoColumn, ColumnTwice, Limit}
use Rattle.pk_values.specs.declared.value.Value.{Value}
use Rattle.pk_values.specs.ColumnSet.{has_column}
use Rattle.pk_values.specs.Name.{is_name}
use Rattle.pk_values.specs.Records.{row_record}
use Rattle.pk_values.specs.Refusals.{first_some}
use Rattle.pk_values.specs.Values.{fits_kinds}
use Rattle.pk_syntax.specs.declared.declaration.ColumnDecl.{ColumnDecl}
use Rattle.pk_syntax.specs.declared.declaration.TableDecl.{TableDecl}
use Rattle.pk_syntax.specs.Declarations.{names_in, is_plain, KeysInColumnOrder, missing_column, column_twice, names_are_short, columns_are_few, keys_are_few, nullable_are_few}
use Rattle.pk_schema.specs.Shapes.{Shape, IsShape, is_plain_name, kinds_of, set_where, shape_of, decl_of}
use Rattle.pk_schema.specs.Making.{schema_refusals}
use Rattle.pk_schema.specs.Admits.{Admits, is_long, is_missing}

-- ---- rows

-- the row has one value for each column, null or of its kind, no text longer than its column allows, no null where the column is NOT NULL, and takes at most 4,000 bytes
pub record FitsShape (s : Shape) (row : List Value) : Type 0 where
  pub width : length row ≡ length s.columns
  pub kinds : fits_kinds (kinds_of s.columns) row ≡ true
  pub lengths : list_all (λ pair. not (is_long pair.0 pair.1)) (zip s.columns row) ≡ true
  pub known : list_all (λ pair. not (is_missing pair.0 pair.1)) (zip s.columns row) ≡ true
  pub size : length (row_record row) ≤ 4000

-- nothing is wrong with just those rows
abbrev pub AdmittedRowsFit : Type 0
AdmittedRowsFit = (s : Shape) (row : List Value) → (Admits s row → FitsShape s row) × (FitsShape s row → Admits s row)

-- ---- sets of columns

-- a column is in the set exactly where there is one at that place and it passes
abbrev pub SetsHoldTheirColumns : Type 0
SetsHoldTheirColumns = (p : ColumnDecl → Bool) (cs : List ColumnDecl) (k : ℕ) → has_column (set_where p cs) k ≡ option_map_or p (slice_get cs k) false

-- whatever the test, the set is one of columns that there are
abbrev pub SetsAreInside : Type 0
SetsAreInside = (p : ColumnDecl → Bool) (cs : List ColumnDecl) → set_where p cs < 2 ^ length cs

-- ---- refusals

-- the causes come in this order, whatever comes behind them
pub record FirstCause (decl : TableDecl) : Type 0 where
  pub no_column : (c : List ℕ) → missing_column decl ≡ Some c → first_some (schema_refusals decl) ≡ Some (NoColumn c decl.table)
  pub twice : (c : List ℕ) → missing_column decl ≡ None → column_twice decl ≡ Some c → first_some (schema_refusals decl) ≡ Some (ColumnTwice c)
  pub name : missing_column decl ≡ None → column_twice decl ≡ None → names_are_short decl ≡ false → first_some (schema_refusals decl) ≡ Some (Limit Name)
  pub columns : missing_column decl ≡ None → column_twice decl ≡ None → names_are_short decl ≡ true → columns_are_few decl ≡ false → first_some (schema_refusals decl) ≡ Some (Limit Columns)
  pub keys : missing_column decl ≡ None → column_twice decl ≡ None → names_are_short decl ≡ true → columns_are_few decl ≡ true → keys_are_few decl ≡ false
      → first_some (schema_refusals decl) ≡ Some (Limit Keys)
  pub nullable : missing_column decl ≡ None → column_twice decl ≡ None → names_are_short decl ≡ true → columns_are_few decl ≡ true → keys_are_few decl ≡ true
      → nullable_are_few decl ≡ false → first_some (schema_refusals decl) ≡ Some (Limit Nullable)
  pub none : missing_column decl ≡ None → column_twice decl ≡ None → names_are_short decl ≡ true → columns_are_few decl ≡ true → keys_are_few decl ≡ true
      → nullable_are_few decl ≡ true → first_some (schema_refusals decl) ≡ None

abbrev pub FirstCauseIsTold : Type 0
FirstCauseIsTold = (decl : TableDecl) → FirstCause decl

-- ---- declarations

-- a declaration that is plain, whose names are names and which is refused nothing has a name that a table may have, and makes a shape
abbrev pub DeclarationsMakeShapes : Type 0
DeclarationsMakeShapes = (decl : TableDecl) → IsTrue (is_plain decl) → IsTrue (list_all is_name (names_in decl)) → first_some (schema_refusals decl) ≡ None
    → IsTrue (is_plain_name decl.table) × IsShape (shape_of decl)

-- what is declared for a schema has names for names, is plain, has its keys in column order, is refused nothing, and makes the same schema
pub record MakesTheSame (table : List ℕ) (s : Shape) : Type 0 where
  pub names : IsTrue (list_all is_name (names_in (decl_of table s)))
  pub plain : IsTrue (is_plain (decl_of table s))
  pub ordered : KeysInColumnOrder (decl_of table s)
  pub unrefused : first_some (schema_refusals (decl_of table s)) ≡ None
  pub same : shape_of (decl_of table s) ≡ s

abbrev pub DeclarationsMakeTheSame : Type 0
DeclarationsMakeTheSame = (table : List ℕ) (s : Shape) → IsTrue (is_plain_name table) → IsShape s → MakesTheSame table s

use Rattle.std.specs.Prelude.{ℕ, Bool, true, false, ◌==◌, List, [], ◌++◌, codes, if◌then◌else◌}
use Rattle.std.specs.List.{flat_map, join_by}
use Rattle.std.specs.Fmt.{decimal}
use Rattle.pk_values.specs.declared.kind.Kind.{Kind}
use Rattle.pk_values.specs.declared.kind.Kind.TheVariants.{Integer, Text}
use Rattle.pk_values.specs.declared.key.Sort.{Sort}
use Rattle.pk_values.specs.declared.key.Sort.TheVariants.{Certain, Possible}
use Rattle.pk_syntax.specs.declared.declaration.TableDecl.{TableDecl}
use Rattle.pk_syntax.specs.declared.declaration.ColumnDecl.{ColumnDecl}
use Rattle.pk_syntax.specs.declared.declaration.KeyText.{KeyText}
use Rattle.pk_syntax.specs.Declarations.{in_column_order}

-- the type of texts of at most so many bytes
abbrev pub text_type : ℕ → List ℕ
text_type max = if max == 255 then codes "TEXT" else codes "VARCHAR(" ++ decimal max ++ codes ")"

-- the type of a column
abbrev pub type_text : Kind → ℕ → List ℕ
type_text Integer max = codes "INTEGER"
type_text Text max = text_type max

abbrev pub null_text : Bool → List ℕ
null_text true = codes " NOT NULL"
null_text false = []

-- a column: its name, its type, and NOT NULL where it is so
abbrev pub column_text : ColumnDecl → List ℕ
column_text c = c.name ++ codes " " ++ type_text c.kind c.max ++ null_text c.not_null

abbrev pub sort_text : Sort → List ℕ
sort_text Certain = codes "CERTAIN KEY "
sort_text Possible = codes "POSSIBLE KEY "

-- a key: its sort, and its columns in the order of the table
abbrev pub key_text : List ColumnDecl → KeyText → List ℕ
key_text columns k = sort_text k.sort ++ codes "(" ++ join_by (λ name. name) (codes ", ") (in_column_order columns k.columns) ++ codes ")"

-- the canonical text of a table: its columns, and behind them its keys, with a comma and a blank between each two
unfoldable pub table_text : TableDecl → List ℕ
table_text decl =
    codes "CREATE TABLE " ++ decl.table ++ codes " ("
    ++ join_by column_text (codes ", ") decl.columns
    ++ flat_map (λ k. codes ", " ++ key_text decl.columns k) decl.keys
    ++ codes ");"

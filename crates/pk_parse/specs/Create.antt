use Rattle.std.specs.Prelude.{ℕ, zero, suc, ◌&&◌, ◌||◌, Bool, true, false, List, [], ◌∷◌, length, map, codes, nat_le, Option, Some, None, if◌then◌else◌}
use Rattle.std.specs.List.{filter_map, flat_map, list_any}
use Rattle.std.specs.Str.{bytes_eq}
use Rattle.pk_values.specs.declared.kind.Kind.TheVariants as kinds
use Rattle.pk_values.specs.declared.key.Sort.{Sort}
use Rattle.pk_values.specs.declared.key.Sort.TheVariants.{Certain, Possible}
use Rattle.pk_lex.specs.declared.token.Token.{Token}
use Rattle.pk_lex.specs.declared.token.Symbol.TheVariants.{LeftParen, RightParen}
use Rattle.pk_syntax.specs.declared.statement.Statement.{Statement}
use Rattle.pk_syntax.specs.declared.statement.Statement.TheVariants as statements
use Rattle.pk_syntax.specs.declared.declaration.TableDecl.{TableDecl}
use Rattle.pk_syntax.specs.declared.declaration.ColumnDecl.{ColumnDecl}
use Rattle.pk_syntax.specs.declared.declaration.KeyText.{KeyText}
use Rattle.pk_parse.specs.declared.table_part.TablePart.{TablePart}
use Rattle.pk_parse.specs.declared.table_part.TablePart.TheVariants.{Column, Key}
use Rattle.pk_parse.specs.declared.table_part.ColumnText.{ColumnText}
use Rattle.pk_parse.specs.declared.table_part.ColumnForm.{ColumnForm}
use Rattle.pk_parse.specs.declared.table_part.KeyPart.{KeyPart}
use Rattle.pk_parse.specs.declared.table_part.Mark.{Mark}
use Rattle.pk_parse.specs.declared.table_part.Mark.TheVariants.{NotNull, Unique, Primary}
use Rattle.pk_parse.specs.Tokens.{Found, ◌>>=◌, behind_or, after_word, after_symbol, name_at, digits_at}
use Rattle.pk_parse.specs.Literals.{number_of}
use Rattle.pk_parse.specs.Lists.{parens_at, names_at}

-- ---- what the parts declare

-- the key of one column
abbrev pub single_key : Sort → List ℕ → Bool → KeyPart
single_key sort column primary = record { key = record { sort = sort; columns = column ∷ [] }; primary = primary }

-- the key of this column alone that a mark makes
abbrev pub key_of_mark : List ℕ → Mark → Option KeyPart
key_of_mark column NotNull = None
key_of_mark column Unique = Some (single_key Possible column false)
key_of_mark column Primary = Some (single_key Certain column true)

-- the keys of a part, in the order of their words
abbrev pub keys_of_part : TablePart → List KeyPart
keys_of_part (Column c) = filter_map (key_of_mark c.name) c.marks
keys_of_part (Key k) = k ∷ []

-- the keys of all parts
abbrev pub keys_of : List TablePart → List KeyPart
keys_of parts = flat_map keys_of_part parts

abbrev pub column_of_part : TablePart → Option ColumnText
column_of_part (Column c) = Some c
column_of_part (Key k) = None

-- the columns of all parts
abbrev pub columns_of : List TablePart → List ColumnText
columns_of parts = filter_map column_of_part parts

abbrev pub is_not_null : Mark → Bool
is_not_null NotNull = true
is_not_null Unique = false
is_not_null Primary = false

-- whether it is a primary key that has the column
abbrev pub has_primary : List ℕ → KeyPart → Bool
has_primary column k = k.primary && list_any (λ name. bytes_eq name column) k.key.columns

-- whether a primary key has the column
abbrev pub is_primary : List KeyPart → List ℕ → Bool
is_primary keys column = list_any (has_primary column) keys

-- the column, which is NOT NULL where it is marked so or a primary key has it
abbrev pub declared_column : (List ℕ → Bool) → ColumnText → ColumnDecl
declared_column in_primary c = record {
  name = c.name;
  kind = c.form.kind;
  max = c.form.max;
  not_null = list_any is_not_null c.marks || in_primary c.name;
}

abbrev pub declared_columns : List KeyPart → List ColumnText → List ColumnDecl
declared_columns keys columns = map (declared_column (is_primary keys)) columns

-- what the columns and keys declare; without a column they declare nothing
abbrev pub declared_by : List ℕ → List ColumnText → List KeyPart → Option TableDecl
declared_by table [] keys = None
declared_by table (c ∷ cs) keys = Some (record { table = table; columns = declared_columns keys (c ∷ cs); keys = map (λ (k : KeyPart). k.key) keys })

-- the table that the parts declare
unfoldable pub declared : List ℕ → List TablePart → Option TableDecl
declared table parts = declared_by table (columns_of parts) (keys_of parts)

-- ---- how the parts are spelled

-- KEY names, as a key of this sort
unfoldable pub keyed_at : Sort → List Token → Found KeyText
keyed_at sort tokens = do
  behind ← after_word (codes "key") tokens
  columns ← names_at behind
  Some (record { sort = sort; columns = columns.0 }, columns.1)

-- CERTAIN KEY names, or POSSIBLE KEY names
unfoldable pub key_at : List Token → Found KeyText
key_at tokens =
    behind_or (after_word (codes "certain") tokens) (keyed_at Certain)
    (behind_or (after_word (codes "possible") tokens) (keyed_at Possible)
    None)

-- names, as a possible key
unfoldable pub unique_at : List Token → Found KeyPart
unique_at tokens = do
  columns ← names_at tokens
  Some (record { key = record { sort = Possible; columns = columns.0 }; primary = false }, columns.1)

-- KEY names, as a primary key
unfoldable pub primary_at : List Token → Found KeyPart
primary_at tokens = do
  key ← keyed_at Certain tokens
  Some (record { key = key.0; primary = true }, key.1)

unfoldable pub plain_key_at : List Token → Found KeyPart
plain_key_at tokens = do
  key ← key_at tokens
  Some (record { key = key.0; primary = false }, key.1)

-- POSSIBLE KEY names, CERTAIN KEY names, UNIQUE names, or PRIMARY KEY names
unfoldable pub key_part_at : List Token → Found KeyPart
key_part_at tokens =
    behind_or (after_word (codes "unique") tokens) unique_at
    (behind_or (after_word (codes "primary") tokens) primary_at
    (plain_key_at tokens))

-- the type of whole numbers
abbrev pub integer_form : ColumnForm
integer_form = record { kind = kinds.Integer; max = 0 }

-- the type of texts of at most so many bytes
abbrev pub text_form : ℕ → ColumnForm
text_form max = record { kind = kinds.Text; max = max }

-- a length from 1 to 255
abbrev pub length_within : ℕ → Option ℕ
length_within n = if nat_le 1 n && nat_le n 255 then Some n else None

-- ( number ), with a value from 1 to 255
unfoldable pub varchar_at : List Token → Found ColumnForm
varchar_at tokens = do
  inside ← after_symbol LeftParen tokens
  digits ← digits_at inside
  max ← length_within (number_of digits.0)
  behind ← after_symbol RightParen digits.1
  Some (text_form max, behind)

-- INTEGER, INT, BIGINT, TEXT, or VARCHAR ( number )
unfoldable pub form_at : List Token → Found ColumnForm
form_at tokens =
    behind_or (after_word (codes "integer") tokens) (λ behind. Some (integer_form, behind))
    (behind_or (after_word (codes "int") tokens) (λ behind. Some (integer_form, behind))
    (behind_or (after_word (codes "bigint") tokens) (λ behind. Some (integer_form, behind))
    (behind_or (after_word (codes "text") tokens) (λ behind. Some (text_form 255, behind))
    (behind_or (after_word (codes "varchar") tokens) varchar_at
    None))))

-- the mark, where this word follows
abbrev pub mark_behind : Mark → Option (List Token) → Found Mark
mark_behind mark behind = behind_or behind (λ ts. Some (mark, ts)) None

-- NOT NULL, UNIQUE, or PRIMARY KEY
unfoldable pub mark_at : List Token → Found Mark
mark_at tokens =
    behind_or (after_word (codes "not") tokens) (λ behind. mark_behind NotNull (after_word (codes "null") behind))
    (behind_or (after_word (codes "unique") tokens) (λ behind. Some (Unique, behind))
    (behind_or (after_word (codes "primary") tokens) (λ behind. mark_behind Primary (after_word (codes "key") behind))
    None))

abbrev pub mark_then : List Token → Found Mark → (List Token → List Mark × List Token) → List Mark × List Token
mark_then tokens None more = ([], tokens)
mark_then tokens (Some (mark, behind)) more = (mark ∷ (more behind).0, (more behind).1)

-- marks, as many as there are, but at most so many
abbrev pub marks_at : ℕ → List Token → List Mark × List Token
marks_at zero tokens = ([], tokens)
marks_at (suc most) tokens = mark_then tokens (mark_at tokens) (marks_at most)

-- type { NOT NULL or UNIQUE or PRIMARY KEY }, behind the column's name
unfoldable pub column_behind : List ℕ → List Token → Found TablePart
column_behind name tokens = do
  form ← form_at tokens
  Some (Column (record { name = name; form = form.0; marks = (marks_at (length form.1) form.1).0 }), (marks_at (length form.1) form.1).1)

unfoldable pub part_key_at : List Token → Found TablePart
part_key_at tokens = do
  key ← key_part_at tokens
  Some (Key key.0, key.1)

abbrev pub column_or_key : Found (List ℕ) → List Token → Found TablePart
column_or_key (Some (name, behind)) tokens = column_behind name behind
column_or_key None tokens = part_key_at tokens

-- a column, which begins with its name, or a key
unfoldable pub part_at : List Token → Found TablePart
part_at tokens = column_or_key (name_at tokens) tokens

-- TABLE name ( part , .. )
unfoldable pub create_at : List Token → Found Statement
create_at tokens = do
  behind ← after_word (codes "table") tokens
  table ← name_at behind
  parts ← parens_at part_at table.1
  decl ← declared table.0 parts.0
  Some (statements.Create decl, parts.1)

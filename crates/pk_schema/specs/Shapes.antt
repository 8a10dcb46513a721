use Rattle.std.specs.Prelude.{◌≡◌, ℕ, zero, suc, ◌+◌, ◌*◌, ◌^◌, ◌≤◌, ◌<◌, Bool, true, not, ◌&&◌, ◌||◌, List, [], ◌∷◌, length, map, filter, find, nat_le, All, Option, None, IsTrue, if◌then◌else◌}
use Rattle.std.specs.List.{list_all, position}
use Rattle.std.specs.Str.{bytes_eq}
use Rattle.pk_values.specs.ColumnSet.{has_column, columns}
use Rattle.pk_values.specs.Name.{is_name}
use Rattle.pk_values.specs.declared.key.KeyDecl.{KeyDecl}
use Rattle.pk_values.specs.declared.kind.Kind.{Kind}
use Rattle.pk_syntax.specs.declared.declaration.ColumnDecl.{ColumnDecl}
use Rattle.pk_syntax.specs.declared.declaration.KeyText.{KeyText}
use Rattle.pk_syntax.specs.declared.declaration.TableDecl.{TableDecl}
use Rattle.pk_syntax.specs.Declarations.{has_name, names_of, is_plain_length, twice, is_certain}
use Rattle.pk_syntax.specs.Words.{is_reserved}

-- what a table is: its columns, and its keys over them
pub record Shape : Type 0 where
  pub columns : List ColumnDecl
  pub keys : List KeyDecl

-- ---- columns by their names

-- whether it is the column of this name
abbrev pub is_column : List ℕ → ColumnDecl → Bool
is_column name c = bytes_eq c.name name

-- the place of the column of this name
unfoldable pub place_of_column : List ColumnDecl → List ℕ → Option ℕ
place_of_column columns name = position (is_column name) columns

-- the column of this name
unfoldable pub column_named : List ColumnDecl → List ℕ → Option ColumnDecl
column_named columns name = find (is_column name) columns

abbrev pub kinds_of : List ColumnDecl → List Kind
kinds_of columns = map (λ (c : ColumnDecl). c.kind) columns

-- ---- sets of columns

-- the set of the columns that pass
unfoldable pub set_where : (ColumnDecl → Bool) → List ColumnDecl → ℕ
set_where p [] = 0
set_where p (c ∷ cs) = (if p c then 1 else 0) + 2 * set_where p cs

-- the set of all columns
abbrev pub all_of : List ColumnDecl → ℕ
all_of columns = set_where (λ c. true) columns

-- the set of the columns that are NOT NULL
abbrev pub not_null_of : List ColumnDecl → ℕ
not_null_of columns = set_where (λ (c : ColumnDecl). c.not_null) columns

-- the set of the columns that have one of the names
abbrev pub named_of : List ColumnDecl → List (List ℕ) → ℕ
named_of columns names = set_where (λ (c : ColumnDecl). has_name names c.name) columns

-- the columns of the set that may be null
abbrev pub nullable_of : List ColumnDecl → ℕ → List ℕ
nullable_of cols set = filter (λ c. not (has_column (not_null_of cols) c)) (columns set)

-- the key over the columns that its text names
abbrev pub key_of : List ColumnDecl → KeyText → KeyDecl
key_of columns k = record { sort = k.sort; columns = named_of columns k.columns }

-- what a declaration makes
abbrev pub shape_of : TableDecl → Shape
shape_of decl = record { columns = decl.columns; keys = map (key_of decl.columns) decl.keys }

-- ---- which shapes there are

-- what a table or a column may be called: a name of at most 30 bytes that is no word of the grammar
abbrev pub is_plain_name : List ℕ → Bool
is_plain_name name = is_name name && not (is_reserved name) && nat_le (length name) 30

-- a certain key has at most 5 columns that may be null
abbrev pub has_few_nullable : List ColumnDecl → KeyDecl → Bool
has_few_nullable cols k = not (is_certain k.sort) || nat_le (length (nullable_of cols k.columns)) 5

-- 1 to 32 columns of distinct names and plain lengths, and at most 32 keys over them
pub record IsShape (s : Shape) : Type 0 where
  pub some_column : 1 ≤ length s.columns
  pub few_columns : length s.columns ≤ 32
  pub names : IsTrue (list_all is_plain_name (names_of s.columns))
  pub distinct : twice (names_of s.columns) ≡ None
  pub lengths : IsTrue (list_all (λ (c : ColumnDecl). is_plain_length c.kind c.max) s.columns)
  pub few_keys : length s.keys ≤ 32
  pub keys_inside : All (λ (k : KeyDecl). k.columns < 2 ^ length s.columns) s.keys
  pub few_nullable : IsTrue (list_all (has_few_nullable s.columns) s.keys)

-- ---- and back

-- the name of the column at a place; empty behind the last
abbrev pub name_at : List ColumnDecl → ℕ → List ℕ
name_at [] c = []
name_at (d ∷ ds) zero = d.name
name_at (d ∷ ds) (suc c) = name_at ds c

-- the names of the columns of a set, in the order of the table
abbrev pub names_at : List ColumnDecl → ℕ → List (List ℕ)
names_at cols set = map (name_at cols) (columns set)

-- a key by the names of its columns
abbrev pub key_text_of : List ColumnDecl → KeyDecl → KeyText
key_text_of cols k = record { sort = k.sort; columns = names_at cols k.columns }

-- the declaration of a table of this name
abbrev pub decl_of : List ℕ → Shape → TableDecl
decl_of table s = record { table = table; columns = s.columns; keys = map (key_text_of s.columns) s.keys }

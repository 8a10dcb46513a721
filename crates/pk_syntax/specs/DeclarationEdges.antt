use Rattle.std.specs.Prelude.{◌≡◌, ℕ, Bool, true, false, List, [], ◌∷◌, codes, replicate, Some, None}
use Rattle.pk_values.specs.declared.kind.Kind.TheVariants.{Integer, Text}
use Rattle.pk_values.specs.declared.key.Sort.{Sort}
use Rattle.pk_values.specs.declared.key.Sort.TheVariants.{Certain, Possible}
use Rattle.pk_syntax.specs.declared.declaration.TableDecl.{TableDecl}
use Rattle.pk_syntax.specs.declared.declaration.ColumnDecl.{ColumnDecl}
use Rattle.pk_syntax.specs.declared.declaration.KeyText.{KeyText}
use Rattle.pk_syntax.specs.Declarations.{in_column_order, is_plain, missing_column, column_twice, names_are_short, columns_are_few, keys_are_few, nullable_are_few}
use Rattle.pk_syntax.specs.Printing.{table_text}

-- The definitions over a declaration at their edges, computed.

abbrev pub a : List ℕ
a = codes "a"

abbrev pub b : List ℕ
b = codes "b"

abbrev pub c : List ℕ
c = codes "c"

-- a column of numbers
abbrev pub number : List ℕ → Bool → ColumnDecl
number name not_null = record { name = name; kind = Integer; max = 0; not_null = not_null }

-- a column of texts
abbrev pub text : List ℕ → ℕ → ColumnDecl
text name max = record { name = name; kind = Text; max = max; not_null = false }

-- six columns that may be null
abbrev pub six : List (List ℕ)
six = a ∷ b ∷ c ∷ codes "d" ∷ codes "e" ∷ codes "f" ∷ []

abbrev pub six_columns : List ColumnDecl
six_columns = number a false ∷ number b false ∷ number c false ∷ number (codes "d") false ∷ number (codes "e") false ∷ number (codes "f") false ∷ []

abbrev pub key : Sort → List (List ℕ) → KeyText
key sort columns = record { sort = sort; columns = columns }

-- the table t
abbrev pub table : List ColumnDecl → List KeyText → TableDecl
table columns keys = record { table = codes "t"; columns = columns; keys = keys }

pub record PlainAtItsEdges : Type 0 where
  pub without_column : is_plain (table [] []) ≡ false
  pub one_column : is_plain (table (number a false ∷ []) []) ≡ true
  pub reserved_column : is_plain (table (number (codes "key") false ∷ []) []) ≡ false
  pub reserved_in_key : is_plain (table (number a false ∷ []) (key Certain (codes "key" ∷ []) ∷ [])) ≡ false
  pub text_of_no_byte : is_plain (table (text a 0 ∷ []) []) ≡ false
  pub shortest_text : is_plain (table (text a 1 ∷ []) []) ≡ true
  pub longest_text : is_plain (table (text a 255 ∷ []) []) ≡ true
  pub longer_text : is_plain (table (text a 256 ∷ []) []) ≡ false

pub record ColumnsAtTheirEdges : Type 0 where
  pub all_there : missing_column (table (number a false ∷ []) (key Certain [] ∷ key Possible (a ∷ []) ∷ [])) ≡ None
  pub first_missing : missing_column (table (number a false ∷ []) (key Certain (a ∷ c ∷ b ∷ []) ∷ [])) ≡ Some c
  pub none_twice : column_twice (table (number a false ∷ number b false ∷ []) (key Certain (b ∷ a ∷ []) ∷ key Possible (a ∷ []) ∷ [])) ≡ None
  pub first_twice : column_twice (table (number a false ∷ number b false ∷ number b false ∷ number a false ∷ []) []) ≡ Some b
  pub columns_first : column_twice (table (number a false ∷ number a false ∷ []) (key Certain (b ∷ b ∷ []) ∷ [])) ≡ Some a
  pub twice_in_key : column_twice (table (number a false ∷ number b false ∷ []) (key Certain (a ∷ []) ∷ key Possible (b ∷ a ∷ b ∷ []) ∷ [])) ≡ Some b
  pub ordered : in_column_order (number a false ∷ number b false ∷ number c false ∷ []) (c ∷ a ∷ []) ≡ a ∷ c ∷ []

pub record LimitsAtTheirEdges : Type 0 where
  pub name_of_30 : names_are_short (table (number (replicate 30 97) false ∷ []) []) ≡ true
  pub name_of_31 : names_are_short (table (number (replicate 31 97) false ∷ []) []) ≡ false
  pub columns_32 : columns_are_few (table (replicate 32 (number a false)) []) ≡ true
  pub columns_33 : columns_are_few (table (replicate 33 (number a false)) []) ≡ false
  pub keys_32 : keys_are_few (table [] (replicate 32 (key Certain []))) ≡ true
  pub keys_33 : keys_are_few (table [] (replicate 33 (key Certain []))) ≡ false
  pub nullable_5 : nullable_are_few (table (number a true ∷ six_columns) (key Certain (b ∷ c ∷ codes "d" ∷ codes "e" ∷ codes "f" ∷ []) ∷ [])) ≡ true
  pub nullable_6 : nullable_are_few (table six_columns (key Certain six ∷ [])) ≡ false
  pub possible_6 : nullable_are_few (table six_columns (key Possible six ∷ [])) ≡ true

pub record TextsAtTheirEdges : Type 0 where
  pub smallest : table_text (table (number a false ∷ []) []) ≡ codes "CREATE TABLE t (a INTEGER);"
  pub lengths : table_text (table (text a 255 ∷ text b 254 ∷ text c 1 ∷ []) []) ≡ codes "CREATE TABLE t (a TEXT, b VARCHAR(254), c VARCHAR(1));"
  pub keys : table_text (table (number a true ∷ number b false ∷ []) (key Certain (b ∷ a ∷ []) ∷ key Possible [] ∷ [])) ≡ codes "CREATE TABLE t (a INTEGER NOT NULL, b INTEGER, CERTAIN KEY (a, b), POSSIBLE KEY ());"

pub record DeclarationsAtTheirEdges : Type 0 where
  pub plain : PlainAtItsEdges
  pub columns : ColumnsAtTheirEdges
  pub limits : LimitsAtTheirEdges
  pub texts : TextsAtTheirEdges

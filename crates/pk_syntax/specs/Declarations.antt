use Rattle.std.specs.Prelude.{◌≡◌, ℕ, Bool, true, false, not, ◌&&◌, ◌||◌, List, [], ◌∷◌, ◌++◌, length, map, filter, find, nat_le, All, Option, Some, None, if◌then◌else◌}
use Rattle.std.specs.List.{list_all, list_any, flat_map}
use Rattle.std.specs.Str.{bytes_eq}
use Rattle.pk_values.specs.declared.kind.Kind.{Kind}
use Rattle.pk_values.specs.declared.kind.Kind.TheVariants.{Integer, Text}
use Rattle.pk_values.specs.declared.key.Sort.{Sort}
use Rattle.pk_values.specs.declared.key.Sort.TheVariants.{Certain, Possible}
use Rattle.pk_syntax.specs.declared.declaration.TableDecl.{TableDecl}
use Rattle.pk_syntax.specs.declared.declaration.ColumnDecl.{ColumnDecl}
use Rattle.pk_syntax.specs.declared.declaration.KeyText.{KeyText}
use Rattle.pk_syntax.specs.Words.{is_reserved}

-- ---- names

-- whether the name is one of them
abbrev pub has_name : List (List ℕ) → List ℕ → Bool
has_name names name = list_any (λ n. bytes_eq n name) names

-- the names of columns, in their order
abbrev pub names_of : List ColumnDecl → List (List ℕ)
names_of columns = map (λ (c : ColumnDecl). c.name) columns

-- the columns that a key names, in the order of the table
abbrev pub in_column_order : List ColumnDecl → List (List ℕ) → List (List ℕ)
in_column_order columns names = filter (has_name names) (names_of columns)

-- all names of a declaration
abbrev pub names_in : TableDecl → List (List ℕ)
names_in decl = decl.table ∷ names_of decl.columns ++ flat_map (λ (k : KeyText). k.columns) decl.keys

-- ---- what parsing gives

abbrev pub has_column : List ColumnDecl → Bool
has_column [] = false
has_column (c ∷ cs) = true

-- a column of numbers has length 0, and one of texts a length from 1 to 255
abbrev pub is_plain_length : Kind → ℕ → Bool
is_plain_length Integer max = nat_le max 0
is_plain_length Text max = nat_le 1 max && nat_le max 255

-- at least one column, no name reserved, and lengths that fit the kinds
abbrev pub is_plain : TableDecl → Bool
is_plain decl = has_column decl.columns && list_all (λ name. not (is_reserved name)) (names_in decl) && list_all (λ (c : ColumnDecl). is_plain_length c.kind c.max) decl.columns

-- ---- columns that are no columns, or stand twice

-- the first name that a key names and that is no column
abbrev pub missing_column : TableDecl → Option (List ℕ)
missing_column decl = find (λ name. not (has_name (names_of decl.columns) name)) (flat_map (λ (k : KeyText). k.columns) decl.keys)

-- the first name that has stood before, where these stood before all
abbrev pub twice_behind : List (List ℕ) → List (List ℕ) → Option (List ℕ)
twice_behind before [] = None
twice_behind before (n ∷ ns) = if has_name before n then Some n else twice_behind (before ++ n ∷ []) ns

-- the first name that has stood before
abbrev pub twice : List (List ℕ) → Option (List ℕ)
twice names = twice_behind [] names

-- the first that there is
abbrev pub first_of : {A : Type 0} → List (Option A) → Option A
first_of [] = None
first_of (Some x ∷ os) = Some x
first_of (None ∷ os) = first_of os

-- the first column that stands twice: among the columns of the table, then in each key
abbrev pub column_twice : TableDecl → Option (List ℕ)
column_twice decl = first_of (twice (names_of decl.columns) ∷ map (λ (k : KeyText). twice k.columns) decl.keys)

-- ---- limits

-- the names of the table and of its columns have at most 30 bytes
abbrev pub names_are_short : TableDecl → Bool
names_are_short decl = list_all (λ name. nat_le (length name) 30) (decl.table ∷ names_of decl.columns)

-- at most 32 columns
abbrev pub columns_are_few : TableDecl → Bool
columns_are_few decl = nat_le (length decl.columns) 32

-- at most 32 keys
abbrev pub keys_are_few : TableDecl → Bool
keys_are_few decl = nat_le (length decl.keys) 32

-- the columns of a key that may be null
abbrev pub nullable_in : List ColumnDecl → List (List ℕ) → List ColumnDecl
nullable_in columns names = filter (λ (c : ColumnDecl). not c.not_null && has_name names c.name) columns

abbrev pub is_certain : Sort → Bool
is_certain Certain = true
is_certain Possible = false

-- each certain key has at most 5 columns that may be null
abbrev pub nullable_are_few : TableDecl → Bool
nullable_are_few decl = list_all (λ (k : KeyText). not (is_certain k.sort) || nat_le (length (nullable_in decl.columns k.columns)) 5) decl.keys

-- ---- the order of a key's columns

-- each key names columns of the table, none twice, in the order of the table
abbrev pub KeysInColumnOrder : TableDecl → Type 0
KeysInColumnOrder decl = All (λ (k : KeyText). in_column_order decl.columns k.columns ≡ k.columns) decl.keys

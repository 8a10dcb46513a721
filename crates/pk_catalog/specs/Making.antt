-- Schemas of columns and of keys by their sets. No public clause cites this.
use Rattle.std.specs.Prelude.{◌≡◌, ℕ, Bool, true, false, not, ◌==◌, ◌&&◌, List, [], ◌∷◌, length, map, filter, nat_le, nat_lt, Option, Some, None, IsTrue}
use Rattle.std.specs.List.{list_all, zip}
use Rattle.std.specs.Option.{option_map}
use Rattle.pk_values.specs.declared.key.KeyDecl.{KeyDecl}
use Rattle.pk_values.specs.declared.key.Sort.{Sort}
use Rattle.pk_values.specs.declared.key.Sort.TheVariants.{Certain, Possible}
use Rattle.pk_values.specs.ColumnSet.{columns}
use Rattle.pk_values.specs.Refusals.{first_some}
use Rattle.pk_syntax.specs.declared.declaration.ColumnDecl.{ColumnDecl}
use Rattle.pk_syntax.specs.declared.declaration.KeyText.{KeyText}
use Rattle.pk_syntax.specs.declared.declaration.TableDecl.{TableDecl}
use Rattle.pk_syntax.specs.Declarations.{has_column, is_plain, is_plain_length}
use Rattle.pk_syntax.specs.Words.{is_reserved}
use Rattle.pk_catalog.specs.declared.table_parts.TableParts.{TableParts}
use Rattle.pk_catalog.specs.declared.table_record.TableRecord.{TableRecord}
use Rattle.pk_catalog.specs.Records.{IsTable}
use Rattle.pk_schema.specs.Shapes.{Shape, IsShape, shape_of, name_at}
use Rattle.pk_schema.specs.Making.{schema_refusals}

-- the shape is that of these columns and keys, and there is one
pub record IsMadeOf (columns : List ColumnDecl) (keys : List KeyDecl) (s : Shape) : Type 0 where
  pub same : s ≡ record { columns = columns; keys = keys }
  pub shape : IsShape s

-- the shape of a declaration that is refused nothing, where its keys are these
pub record IsDeclared (decl : TableDecl) (keys : List KeyDecl) (s : Shape) : Type 0 where
  pub plain : IsTrue (is_plain decl)
  pub unrefused : first_some (schema_refusals decl) ≡ None
  pub same : s ≡ shape_of decl
  pub kept : s.keys ≡ keys
  pub shape : IsShape s

-- this shape, where its keys are these
pub record HasKeys (made : Shape) (keys : List KeyDecl) (s : Shape) : Type 0 where
  pub same : s ≡ made
  pub kept : s.keys ≡ keys
  pub shape : IsShape s

-- what these parts are of, where that is a table
pub record IsOfParts (p : TableParts) (t : TableRecord) : Type 0 where
  pub same : t ≡ record { name = p.name; schema = record { columns = p.columns; keys = p.keys }; next = p.next }
  pub table : IsTable t

-- a next id from 1 to 2^62, and a name that is no word of the grammar
abbrev pub is_head : ℕ → List ℕ → Bool
is_head next name = nat_le 1 next && (nat_le next 4611686018427387904 && not (is_reserved name))

-- no name of the declaration is a word of the grammar
abbrev pub has_free_names : TableDecl → Bool
has_free_names decl = not (is_reserved decl.table)
    && (list_all (λ (c : ColumnDecl). not (is_reserved c.name)) decl.columns && list_all (λ (k : KeyText). list_all (λ name. not (is_reserved name)) k.columns) decl.keys)

-- the same as is_plain, with the names by table, columns and keys
abbrev pub is_plain_by_parts : TableDecl → Bool
is_plain_by_parts decl = has_column decl.columns && (has_free_names decl && list_all (λ (c : ColumnDecl). is_plain_length c.kind c.max) decl.columns)

abbrev pub same_sort : Sort → Sort → Bool
same_sort Certain Certain = true
same_sort Certain Possible = false
same_sort Possible Certain = false
same_sort Possible Possible = true

abbrev pub same_key : KeyDecl → KeyDecl → Bool
same_key a b = a.columns == b.columns && same_sort a.sort b.sort

unfoldable pub same_keys : List KeyDecl → List KeyDecl → Bool
same_keys ks ls = length ks == length ls && list_all (λ pair. same_key pair.0 pair.1) (zip ks ls)

-- the name of the first column
abbrev pub first_name : List ColumnDecl → Option (List ℕ)
first_name [] = None
first_name (c ∷ cs) = Some c.name

-- the names of those columns of a set that a table has
unfoldable pub names_inside : List ColumnDecl → ℕ → List (List ℕ)
names_inside cs set = map (name_at cs) (filter (λ c. nat_lt c (length cs)) (columns set))

abbrev pub key_text_inside : List ColumnDecl → KeyDecl → KeyText
key_text_inside cs k = record { sort = k.sort; columns = names_inside cs k.columns }

-- the declaration of a table of these columns and keys, under the first column's name
abbrev pub decl_inside : List ColumnDecl → List KeyDecl → Option TableDecl
decl_inside cs ks = option_map (λ name. record { table = name; columns = cs; keys = map (key_text_inside cs) ks }) (first_name cs)

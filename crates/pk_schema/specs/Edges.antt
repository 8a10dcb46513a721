use Rattle.std.specs.Prelude.{◌≡◌, ℕ, ◌+◌, Bool, true, false, List, [], ◌∷◌, ◌++◌, codes, map, replicate, Option, Some, None, pos}
use Rattle.std.specs.List.{range_with_len}
use Rattle.pk_values.specs.declared.kind.Kind.TheVariants.{Integer, Text}
use Rattle.pk_values.specs.declared.key.Sort.{Sort}
use Rattle.pk_values.specs.declared.key.Sort.TheVariants.{Certain, Possible}
use Rattle.pk_values.specs.declared.refusal.LimitName.TheVariants.{Name, Columns, Keys, Nullable}
use Rattle.pk_values.specs.declared.refusal.Refusal.{Refusal}
use Rattle.pk_values.specs.declared.refusal.Refusal.TheVariants.{NoColumn, ColumnTwice, Limit}
use Rattle.pk_values.specs.declared.value.Value.{Value}
use Rattle.pk_values.specs.declared.value.Value.TheVariants as values
use Rattle.pk_values.specs.Refusals.{first_some}
use Rattle.pk_syntax.specs.declared.declaration.ColumnDecl.{ColumnDecl}
use Rattle.pk_syntax.specs.declared.declaration.KeyText.{KeyText}
use Rattle.pk_schema.specs.declared.admitting.RowFault.{RowFault}
use Rattle.pk_schema.specs.declared.admitting.RowFault.TheVariants as faults
use Rattle.pk_schema.specs.Shapes.{shape_of, named_of, not_null_of, all_of}
use Rattle.pk_schema.specs.Making.{schema_refusals}
use Rattle.pk_schema.specs.Admits.{row_fault}

-- The definitions at their edges, computed.

abbrev pub a : List ℕ
a = codes "a"

abbrev pub b : List ℕ
b = codes "b"

abbrev pub c : List ℕ
c = codes "c"

-- a column of numbers
abbrev pub number : List ℕ → Bool → ColumnDecl
number name not_null = record { name = name; kind = Integer; max = 0; not_null = not_null }

-- a column of texts
abbrev pub text : List ℕ → ℕ → ColumnDecl
text name max = record { name = name; kind = Text; max = max; not_null = false }

abbrev pub key : Sort → List (List ℕ) → KeyText
key sort columns = record { sort = sort; columns = columns }

-- the names from A on, one byte each
abbrev pub letters : ℕ → List (List ℕ)
letters n = map (λ i. (65 + i) ∷ []) (range_with_len 0 n)

-- columns that may be null, under these names
abbrev pub nullable : ℕ → List ColumnDecl
nullable n = map (λ name. number name false) (letters n)

-- what the declaration of the table t is refused for
abbrev pub refusal : List ColumnDecl → List KeyText → Option Refusal
refusal columns keys = first_some (schema_refusals (record { table = codes "t"; columns = columns; keys = keys }))

pub record RefusalsAtTheirEdges : Type 0 where
  pub name_of_30 : refusal (number (replicate 30 97) false ∷ []) [] ≡ None
  pub name_of_31 : refusal (number (replicate 31 97) false ∷ []) [] ≡ Some (Limit Name)
  pub columns_32 : refusal (nullable 32) [] ≡ None
  pub columns_33 : refusal (nullable 33) [] ≡ Some (Limit Columns)
  pub keys_32 : refusal (number a false ∷ []) (replicate 32 (key Certain (a ∷ []))) ≡ None
  pub keys_33 : refusal (number a false ∷ []) (replicate 33 (key Certain (a ∷ []))) ≡ Some (Limit Keys)
  pub nullable_5 : refusal (number a true ∷ nullable 5) (key Certain (a ∷ letters 5) ∷ []) ≡ None
  pub nullable_6 : refusal (nullable 6) (key Certain (letters 6) ∷ []) ≡ Some (Limit Nullable)
  pub possible_6 : refusal (nullable 6) (key Possible (letters 6) ∷ []) ≡ None
  pub missing : refusal (number a false ∷ number a false ∷ []) (key Certain (a ∷ c ∷ b ∷ []) ∷ []) ≡ Some (NoColumn c (codes "t"))
  pub twice : refusal (number a false ∷ nullable 33) (key Certain (a ∷ a ∷ []) ∷ []) ≡ Some (ColumnTwice a)
  pub twice_in_key : refusal (number a false ∷ number b false ∷ []) (key Certain (a ∷ []) ∷ key Certain (b ∷ a ∷ b ∷ []) ∷ []) ≡ Some (ColumnTwice b)
  pub names_first : refusal (number (replicate 31 97) false ∷ nullable 32) [] ≡ Some (Limit Name)
  pub no_column_of_a_key : refusal (number a false ∷ []) (key Certain [] ∷ []) ≡ None

pub record SetsAtTheirEdges : Type 0 where
  pub none : named_of (nullable 3) [] ≡ 0
  pub unordered : named_of (number a false ∷ number b true ∷ number c false ∷ []) (c ∷ a ∷ []) ≡ 5
  pub not_null : not_null_of (number a false ∷ number b true ∷ number c true ∷ []) ≡ 6
  pub all : all_of (nullable 32) ≡ 4294967295

-- what is wrong with a row for (a INTEGER NOT NULL, b VARCHAR(3))
abbrev pub fault : List Value → Option RowFault
fault row = row_fault (shape_of (record { table = codes "t"; columns = number a true ∷ text b 3 ∷ []; keys = [] })) row

-- what is wrong with a row of texts of 255 bytes and one text more
abbrev pub fault_of_texts : ℕ → ℕ → Option RowFault
fault_of_texts n bytes =
    row_fault (record { columns = map (λ name. text name 255) (letters (n + 1)); keys = [] }) (replicate n (values.Text (replicate 255 97)) ++ values.Text (replicate bytes 97) ∷ [])

pub record RowsAtTheirEdges : Type 0 where
  pub admitted : fault (values.Integer (pos 1) ∷ values.Text (codes "abc") ∷ []) ≡ None
  pub with_null : fault (values.Integer (pos 1) ∷ values.Null ∷ []) ≡ None
  pub short : fault (values.Null ∷ []) ≡ Some (faults.Width 1)
  pub wide : fault (values.Integer (pos 1) ∷ values.Null ∷ values.Null ∷ []) ≡ Some (faults.Width 3)
  pub leftmost : fault (values.Text (codes "abcd") ∷ values.Integer (pos 1) ∷ []) ≡ Some (faults.Kind 0)
  pub kind_first : fault (values.Null ∷ values.Integer (pos 1) ∷ []) ≡ Some (faults.Kind 1)
  pub long_first : fault (values.Null ∷ values.Text (codes "abcd") ∷ []) ≡ Some (faults.Long 1 4)
  pub missing : fault (values.Null ∷ values.Text (codes "abc") ∷ []) ≡ Some (faults.Null 0)
  pub largest : fault_of_texts 15 143 ≡ None
  pub larger : fault_of_texts 15 144 ≡ Some (faults.Size 4001)
  pub size_last : row_fault (record { columns = number a true ∷ map (λ name. text name 255) (letters 16); keys = [] }) (values.Null ∷ replicate 16 (values.Text (replicate 255 97))) ≡ Some (faults.Null 0)

pub record DefinitionsAtTheirEdges : Type 0 where
  pub refusals : RefusalsAtTheirEdges
  pub sets : SetsAtTheirEdges
  pub rows : RowsAtTheirEdges

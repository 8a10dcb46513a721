-- Breaks and changed rows at their edges, computed, over a INTEGER, which is the set 1, and b TEXT, which is 2.
use Rattle.std.specs.Prelude.{◌≡◌, ℕ, false, codes, List, [], ◌∷◌, ◌++◌, replicate, Option, Some, None, pos}
use Rattle.pk_values.specs.declared.broken.Break.{Break}
use Rattle.pk_values.specs.declared.key.KeyDecl.{KeyDecl}
use Rattle.pk_values.specs.declared.key.Sort.{Sort}
use Rattle.pk_values.specs.declared.key.Sort.TheVariants.{Certain, Possible}
use Rattle.pk_values.specs.declared.kind.Kind.TheVariants as kinds
use Rattle.pk_values.specs.declared.placed.Placed.{Placed}
use Rattle.pk_values.specs.declared.value.Value.{Value}
use Rattle.pk_values.specs.declared.value.Value.TheVariants.{Null, Integer, Text}
use Rattle.pk_rule.specs.Laws.{key_over}
use Rattle.pk_guard.specs.Breaks.{first_break}
use Rattle.pk_guard.specs.Changed.{put_row, changed_rows}

-- a row of these two entries under this id
abbrev pub row : ℕ → Value → Value → Placed
row id a b = record { id = id; row = a ∷ b ∷ [] }

abbrev pub one : Value
one = Integer (pos 1)

abbrev pub two : Value
two = Integer (pos 2)

abbrev pub x : Value
x = Text (codes "x")

-- the first break of these rows of a table with these keys
abbrev pub breaking : List KeyDecl → List Placed → Option Break
breaking keys rows =
    first_break (record {
      columns = record { name = codes "a"; kind = kinds.Integer; max = 0; not_null = false } ∷ record { name = codes "b"; kind = kinds.Text; max = 255; not_null = false } ∷ [];
      keys = keys;
    }) rows

-- this break
abbrev pub broken : ℕ → Sort → ℕ → ℕ → List Value → Option Break
broken key sort low high values = Some (record { key = key; sort = sort; low = low; high = high; values = values })

pub record BreaksAtTheirEdges : Type 0 where
  pub no_row : breaking (key_over Certain 0 ∷ []) [] ≡ None
  pub one_row : breaking (key_over Certain 0 ∷ []) (row 1 Null Null ∷ []) ≡ None
  pub no_key : breaking [] (row 1 one x ∷ row 2 one x ∷ []) ≡ None
  pub no_column : breaking (key_over Possible 0 ∷ []) (row 4 one x ∷ row 7 two Null ∷ []) ≡ broken 1 Possible 4 7 []
  pub nulls_of_a_certain_key : breaking (key_over Certain 3 ∷ []) (row 1 Null Null ∷ row 2 Null x ∷ []) ≡ broken 1 Certain 1 2 (Integer (pos 0) ∷ x ∷ [])
  pub nulls_of_a_possible_key : breaking (key_over Possible 3 ∷ []) (row 1 one Null ∷ row 2 one Null ∷ []) ≡ None
  pub last_of_32 : breaking (replicate 31 (key_over Possible 1) ++ key_over Certain 2 ∷ []) (row 1 one x ∷ row 2 two x ∷ []) ≡ broken 32 Certain 1 2 (x ∷ [])
  pub first_key : breaking (key_over Possible 1 ∷ key_over Certain 2 ∷ []) (row 1 one x ∷ row 2 two x ∷ row 3 one x ∷ []) ≡ broken 1 Possible 1 3 (one ∷ [])
  pub lower_row : breaking (key_over Possible 1 ∷ []) (row 1 one x ∷ row 2 two x ∷ row 3 two x ∷ row 4 one x ∷ []) ≡ broken 1 Possible 1 4 (one ∷ [])
  pub higher_row : breaking (key_over Possible 1 ∷ []) (row 1 one x ∷ row 2 one x ∷ row 3 one x ∷ []) ≡ broken 1 Possible 1 2 (one ∷ [])

-- what becomes of rows 2 and 4
abbrev pub changed : List ℕ → List Placed → List Placed
changed gone put = changed_rows (record { gone = gone; put = put }) (row 2 one x ∷ row 4 two x ∷ [])

pub record ChangesAtTheirEdges : Type 0 where
  pub among_none : put_row (row 3 one x) [] ≡ row 3 one x ∷ []
  pub nothing : changed [] [] ≡ row 2 one x ∷ row 4 two x ∷ []
  pub no_such_row : changed (3 ∷ 3 ∷ []) [] ≡ row 2 one x ∷ row 4 two x ∷ []
  pub all_go : changed (4 ∷ 2 ∷ []) [] ≡ []
  pub everywhere : changed [] (row 5 two x ∷ row 3 two x ∷ row 1 two x ∷ []) ≡ row 1 two x ∷ row 2 one x ∷ row 3 two x ∷ row 4 two x ∷ row 5 two x ∷ []
  pub in_its_place : changed [] (row 2 Null x ∷ []) ≡ row 2 Null x ∷ row 4 two x ∷ []
  pub the_last_counts : changed [] (row 2 Null x ∷ row 2 two Null ∷ []) ≡ row 2 two Null ∷ row 4 two x ∷ []
  pub gone_and_put : changed (2 ∷ []) (row 2 Null x ∷ []) ≡ row 2 Null x ∷ row 4 two x ∷ []

-- Examples at their edges, computed. Columns a and b are the sets 1 and 2.
use Rattle.std.specs.Prelude.{◌≡◌, ℕ, ◌-◌, ◌^◌, pos, List, [], ◌∷◌, map, replicate}
use Rattle.pk_values.specs.declared.key.KeyDecl.{KeyDecl}
use Rattle.pk_values.specs.declared.key.Sort.{Sort}
use Rattle.pk_values.specs.declared.key.Sort.TheVariants.{Certain, Possible}
use Rattle.pk_values.specs.declared.kind.Kind.TheVariants as kinds
use Rattle.pk_values.specs.declared.value.Value.{Value}
use Rattle.pk_values.specs.declared.value.Value.TheVariants.{Null, Integer}
use Rattle.pk_rule.specs.Plain.{Plain}
use Rattle.pk_rule.specs.Laws.{key_over}
use Rattle.pk_examples.specs.declared.case.Case.{Case}
use Rattle.pk_examples.specs.Family.{cases_of, examples}

-- (a INTEGER NOT NULL, b INTEGER) with these keys
abbrev pub pair : List KeyDecl → Plain
pair keys = record { kinds = kinds.Integer ∷ kinds.Integer ∷ []; known = 1; keys = keys }

-- a case by its sort, columns and rows
abbrev pub case_of : Sort → ℕ → List Value → List Value → Case
case_of sort columns low high = record { sort = sort; columns = columns; low = low; high = high }

-- the numbers 0 and 1
abbrev pub zero_value : Value
zero_value = Integer (pos 0)

abbrev pub one_value : Value
one_value = Integer (pos 1)

-- the sets of columns that the schema leaves open
abbrev pub left_open : Sort → Plain → List ℕ
left_open sort s = map (λ (case : Case). case.columns) (cases_of sort s)

pub record ExamplesAtTheirEdges : Type 0 where
  pub no_column : examples (record { kinds = []; known = 0; keys = [] }) ≡ case_of Certain 0 [] [] ∷ case_of Possible 0 [] [] ∷ []
  pub no_key :
      examples (pair [])
      ≡ case_of Certain 3 (zero_value ∷ Null ∷ []) (zero_value ∷ Null ∷ []) ∷ case_of Possible 3 (zero_value ∷ zero_value ∷ []) (zero_value ∷ zero_value ∷ []) ∷ []
  pub key_without_columns : examples (pair (key_over Possible 0 ∷ [])) ≡ []
  pub certain_key :
      examples (pair (key_over Certain 1 ∷ []))
      ≡ case_of Certain 2 (zero_value ∷ Null ∷ []) (one_value ∷ Null ∷ []) ∷ case_of Possible 2 (zero_value ∷ zero_value ∷ []) (one_value ∷ zero_value ∷ []) ∷ []
  pub possible_key_that_may_be_null : left_open Certain (pair (key_over Possible 2 ∷ [])) ≡ 3 ∷ []
  pub possible_key_that_may_not : left_open Certain (pair (key_over Possible 1 ∷ [])) ≡ 2 ∷ []
  pub in_order_of_what_is_outside : left_open Possible (pair (key_over Certain 3 ∷ [])) ≡ 2 ∷ 1 ∷ []
  pub two_keys : left_open Possible (pair (key_over Possible 1 ∷ key_over Certain 2 ∷ [])) ≡ 0 ∷ []
  pub first_of_32 : left_open Certain (record { kinds = replicate 32 kinds.Integer; known = 0; keys = key_over Certain 1 ∷ [] }) ≡ (2 ^ 32 - 2) ∷ []

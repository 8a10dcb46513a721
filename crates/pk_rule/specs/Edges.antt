-- The rule and the two rows at their edges, computed. Column a is the set 1, column b the set 2.
use Rattle.std.specs.Prelude.{◌≡◌, ℕ, ◌-◌, ◌^◌, Bool, true, false, List, [], ◌∷◌, ◌++◌, replicate, pos}
use Rattle.pk_values.specs.declared.key.KeyDecl.{KeyDecl}
use Rattle.pk_values.specs.declared.key.Sort.TheVariants.{Certain, Possible}
use Rattle.pk_values.specs.declared.kind.Kind.TheVariants as kinds
use Rattle.pk_values.specs.declared.value.Value.{Value}
use Rattle.pk_values.specs.declared.value.Value.TheVariants.{Null, Integer, Text}
use Rattle.pk_rule.specs.Plain.{Plain}
use Rattle.pk_rule.specs.Tables.{all_known}
use Rattle.pk_rule.specs.Rule.{alone_implies, is_implied}
use Rattle.pk_rule.specs.TwoRows.{low_row, high_row}
use Rattle.pk_rule.specs.Laws.{key_over}

-- all of 32 columns
abbrev pub all : ℕ
all = 2 ^ 32 - 1

-- a key over a INTEGER and b TEXT NOT NULL follows from these
abbrev pub follows : List KeyDecl → KeyDecl → Bool
follows keys k = is_implied (record { kinds = kinds.Integer ∷ kinds.Text ∷ []; known = 2; keys = keys }) k

pub record RuleAtItsEdges : Type 0 where
  pub without_keys : follows [] (key_over Possible 3) ≡ false
  pub no_column_may_be_null : alone_implies 0 (key_over Possible 0) (key_over Certain 0) ≡ true
  pub no_column_implies_all : alone_implies 0 (key_over Possible 0) (key_over Certain all) ≡ true
  pub none_of_32_may_be_null : alone_implies all (key_over Possible all) (key_over Certain all) ≡ true
  pub the_last_of_32_may_be_null : alone_implies (2 ^ 31 - 1) (key_over Possible all) (key_over Certain all) ≡ false
  pub more_columns : alone_implies 0 (key_over Certain 3) (key_over Certain 1) ≡ false
  pub strengthened_and_extended : alone_implies 2 (key_over Possible 2) (key_over Certain 3) ≡ true
  pub weakened_and_extended : alone_implies 0 (key_over Certain 1) (key_over Possible 3) ≡ true
  pub neither_columns_nor_sort : alone_implies 2 (key_over Possible 3) (key_over Certain 2) ≡ false
  pub none_of_two_alone : follows (key_over Possible 1 ∷ key_over Certain 3 ∷ []) (key_over Certain 1) ≡ false
  pub one_of_two : follows (key_over Possible 1 ∷ key_over Possible 2 ∷ []) (key_over Certain 3) ≡ true

-- the two rows of a key over a INTEGER and b TEXT NOT NULL
abbrev pub shown : KeyDecl → List (List Value)
shown k =
    low_row (record { kinds = kinds.Integer ∷ kinds.Text ∷ []; known = 2; keys = [] }) k
    ∷ high_row (record { kinds = kinds.Integer ∷ kinds.Text ∷ []; known = 2; keys = [] }) k
    ∷ []

-- 32 columns of numbers that may be null
abbrev pub numbers : Plain
numbers = record { kinds = replicate 32 kinds.Integer; known = 0; keys = [] }

pub record TwoRowsAtTheirEdges : Type 0 where
  pub without_columns : low_row (record { kinds = []; known = 0; keys = [] }) (key_over Certain 0) ≡ []
  pub key_without_columns : shown (key_over Certain 0) ≡ (Integer (pos 0) ∷ Text [] ∷ []) ∷ (Integer (pos 1) ∷ Text (97 ∷ []) ∷ []) ∷ []
  pub possible_over_all : shown (key_over Possible 3) ≡ (Integer (pos 0) ∷ Text [] ∷ []) ∷ (Integer (pos 0) ∷ Text [] ∷ []) ∷ []
  pub certain_over_all : shown (key_over Certain 3) ≡ (Null ∷ Text [] ∷ []) ∷ (Null ∷ Text [] ∷ []) ∷ []
  pub last_of_32 : high_row numbers (key_over Certain (2 ^ 31)) ≡ replicate 31 (Integer (pos 1)) ++ Null ∷ []

-- what no row has null in, at its edges: no row, no column, a null, and no entry at all
pub record KnownAtItsEdges : Type 0 where
  pub no_row : all_known all [] ≡ true
  pub no_column : all_known 0 ((Null ∷ []) ∷ []) ≡ true
  pub null : all_known 1 ((Integer (pos 1) ∷ []) ∷ (Null ∷ []) ∷ []) ≡ false
  pub behind_the_row : all_known 2 ((Integer (pos 1) ∷ []) ∷ []) ≡ false

-- Questions, rules and covers at their edges, computed. Columns a and b are the sets 1 and 2.
use Rattle.std.specs.Prelude.{◌≡◌, ℕ, ◌+◌, ◌-◌, ◌^◌, false, codes, List, [], ◌∷◌, ◌++◌, replicate, Option, Some, None}
use Rattle.pk_values.specs.declared.key.KeyDecl.{KeyDecl}
use Rattle.pk_values.specs.declared.key.Sort.TheVariants.{Certain, Possible}
use Rattle.pk_values.specs.declared.kind.Kind.TheVariants.{Integer}
use Rattle.pk_values.specs.declared.refusal.Refusal.{Refusal}
use Rattle.pk_values.specs.declared.refusal.Refusal.TheVariants.{NoColumn, ColumnTwice}
use Rattle.pk_values.specs.declared.rule.Rule.TheVariants.{Declared, Strengthen, Weaken, Extend}
use Rattle.pk_values.specs.Refusals.{first_some}
use Rattle.pk_syntax.specs.declared.declaration.ColumnDecl.{ColumnDecl}
use Rattle.pk_rule.specs.Plain.{Plain}
use Rattle.pk_rule.specs.Laws.{key_over}
use Rattle.pk_imply.specs.Asking.{ask_refusals}
use Rattle.pk_imply.specs.Deriving.{implying_place, rules_of}
use Rattle.pk_imply.specs.Cover.{cover_of}

-- a column of numbers
abbrev pub number : List ℕ → ColumnDecl
number name = record { name = name; kind = Integer; max = 0; not_null = false }

-- what the columns of a key are refused for, of a table t of a and b
abbrev pub asking : List (List ℕ) → Option Refusal
asking names = first_some (ask_refusals (codes "t") (number (codes "a") ∷ number (codes "b") ∷ []) names)

pub record QuestionsAtTheirEdges : Type 0 where
  pub no_column : asking [] ≡ None
  pub any_order : asking (codes "b" ∷ codes "a" ∷ []) ≡ None
  pub first_missing : asking (codes "a" ∷ codes "d" ∷ codes "c" ∷ []) ≡ Some (NoColumn (codes "d") (codes "t"))
  pub first_twice : asking (codes "a" ∷ codes "b" ∷ codes "b" ∷ codes "a" ∷ []) ≡ Some (ColumnTwice (codes "b"))
  pub missing_before_twice : asking (codes "a" ∷ codes "a" ∷ codes "c" ∷ []) ≡ Some (NoColumn (codes "c") (codes "t"))

-- 32 columns of numbers, of which these are NOT NULL, with these keys
abbrev pub keyed : ℕ → List KeyDecl → Plain
keyed known keys = record { kinds = replicate 32 Integer; known = known; keys = keys }

-- all of 32 columns
abbrev pub all : ℕ
all = 2 ^ 32 - 1

pub record RulesAtTheirEdges : Type 0 where
  pub no_key : rules_of (keyed 0 []) (key_over Possible all) ≡ []
  pub no_column : rules_of (keyed 0 (key_over Possible 0 ∷ [])) (key_over Certain all) ≡ Declared 1 ∷ Strengthen ∷ Extend all ∷ []
  pub weakened_and_extended : rules_of (keyed 0 (key_over Certain 1 ∷ [])) (key_over Possible 3) ≡ Declared 1 ∷ Weaken ∷ Extend 3 ∷ []
  pub last_of_32 : implying_place (keyed 0 (replicate 31 (key_over Possible 1) ++ key_over Certain 2 ∷ [])) (key_over Certain 2) ≡ Some 31
  pub first_of_two : implying_place (keyed 1 (key_over Possible 1 ∷ key_over Certain 1 ∷ [])) (key_over Certain 1) ≡ Some 0

pub record CoversAtTheirEdges : Type 0 where
  pub twice : cover_of (keyed 0 (key_over Certain 1 ∷ key_over Certain 1 ∷ [])) ≡ key_over Certain 1 ∷ []
  pub no_column : cover_of (keyed 0 (key_over Certain all ∷ key_over Possible 0 ∷ key_over Certain 1 ∷ [])) ≡ key_over Certain 0 ∷ []
  pub told_as_certain : cover_of (keyed 1 (key_over Possible 1 ∷ [])) ≡ key_over Certain 1 ∷ []
  pub certain_first : cover_of (keyed 0 (key_over Possible 1 ∷ key_over Certain 6 ∷ [])) ≡ key_over Certain 6 ∷ key_over Possible 1 ∷ []
  pub smaller_first : cover_of (keyed 0 (key_over Certain 3 ∷ key_over Certain (2 ^ 31) ∷ [])) ≡ key_over Certain (2 ^ 31) ∷ key_over Certain 3 ∷ []
  pub by_columns : cover_of (keyed 0 (key_over Certain 6 ∷ key_over Certain (2 ^ 31 + 1) ∷ [])) ≡ key_over Certain (2 ^ 31 + 1) ∷ key_over Certain 6 ∷ []

-- Three columns a, b and c of numbers, which are the sets 1, 2 and 4, what keys over them imply, and their cover.
use Rattle.std.specs.Prelude.{◌≡◌, List, [], ◌∷◌, None, Some}
use Rattle.pk_values.specs.declared.key.Sort.TheVariants.{Certain, Possible}
use Rattle.pk_values.specs.declared.kind.Kind.{Kind}
use Rattle.pk_values.specs.declared.kind.Kind.TheVariants.{Integer}
use Rattle.pk_values.specs.declared.rule.Rule.TheVariants.{Declared, Strengthen, Weaken, Extend}
use Rattle.pk_rule.specs.Plain.{Plain}
use Rattle.pk_rule.specs.Laws.{key_over}
use Rattle.pk_imply.specs.Deriving.{implying_place, rules_of}
use Rattle.pk_imply.specs.Cover.{cover_of}

abbrev pub three_numbers : List Kind
three_numbers = Integer ∷ Integer ∷ Integer ∷ []

-- a INT NOT NULL, b INT, c INT, POSSIBLE KEY (a)
abbrev pub a_is_known : Plain
a_is_known = record { kinds = three_numbers; known = 1; keys = key_over Possible 1 ∷ [] }

-- a INT, b INT, c INT, POSSIBLE KEY (a), CERTAIN KEY (a), POSSIBLE KEY (a, b), CERTAIN KEY (b, c)
abbrev pub four_keys : Plain
four_keys = record { kinds = three_numbers; known = 0; keys = key_over Possible 1 ∷ key_over Certain 1 ∷ key_over Possible 3 ∷ key_over Certain 6 ∷ [] }

-- a INT, b INT, c INT
abbrev pub no_keys : Plain
no_keys = record { kinds = three_numbers; known = 0; keys = [] }

pub record ExamplesAreComputed : Type 0 where
  pub possible_implies_certain_over_known : rules_of a_is_known (key_over Certain 3) ≡ Declared 1 ∷ Strengthen ∷ Extend 3 ∷ []
  pub the_same_key_takes_no_rule : rules_of a_is_known (key_over Possible 1) ≡ Declared 1 ∷ []
  pub no_key_over_other_columns : implying_place a_is_known (key_over Possible 6) ≡ None
  pub possible_implies_no_certain_over_null : implying_place four_keys (key_over Certain 1) ≡ Some 1
  pub the_least_place_is_told : implying_place four_keys (key_over Possible 3) ≡ Some 0
  pub certain_implies_possible : rules_of four_keys (key_over Possible 6) ≡ Declared 4 ∷ Weaken ∷ []
  pub no_columns_follow_from_some : implying_place four_keys (key_over Possible 0) ≡ None
  pub the_least_sets_are_the_cover : cover_of four_keys ≡ key_over Certain 1 ∷ key_over Certain 6 ∷ []
  pub no_keys_have_no_cover : cover_of no_keys ≡ []

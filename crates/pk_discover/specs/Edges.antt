-- Minimal keys at their edges, computed. Columns 0 and 1 are the sets 1 and 2.
use Rattle.std.specs.Prelude.{◌≡◌, List, [], ◌∷◌, None, pos}
use Rattle.pk_values.specs.declared.key.Sort.TheVariants.{Certain, Possible}
use Rattle.pk_values.specs.declared.value.Value.{Value}
use Rattle.pk_values.specs.declared.value.Value.TheVariants.{Null, Integer}
use Rattle.pk_discover.specs.Keys.{minimal_keys}
use Rattle.pk_discover.specs.Limits.{refusal}

abbrev pub one_two : List Value
one_two = Integer (pos 1) ∷ Integer (pos 2) ∷ []

abbrev pub one_null : List Value
one_null = Integer (pos 1) ∷ Null ∷ []

abbrev pub two_nulls : List Value
two_nulls = Null ∷ Null ∷ []

abbrev pub two_one : List Value
two_one = Integer (pos 2) ∷ Integer (pos 1) ∷ []

abbrev pub one_one : List Value
one_one = Integer (pos 1) ∷ Integer (pos 1) ∷ []

pub record KeysAtTheirEdges : Type 0 where
  pub no_row : minimal_keys Certain 3 [] ≡ 0 ∷ []
  pub one_row : minimal_keys Certain 3 (one_two ∷ []) ≡ 0 ∷ []
  pub one_row_of_nulls : minimal_keys Certain 3 (two_nulls ∷ []) ≡ 0 ∷ []
  pub one_row_possible : minimal_keys Possible 3 (two_nulls ∷ []) ≡ 0 ∷ []
  pub equal_rows_certain : minimal_keys Certain 3 (one_two ∷ one_two ∷ []) ≡ []
  pub equal_rows_possible : minimal_keys Possible 3 (one_two ∷ one_two ∷ []) ≡ []
  pub equal_nulls_certain : minimal_keys Certain 3 (one_null ∷ one_null ∷ []) ≡ []
  pub equal_nulls_possible : minimal_keys Possible 3 (one_null ∷ one_null ∷ []) ≡ 2 ∷ []
  pub nulls_alone_certain : minimal_keys Certain 3 (two_nulls ∷ two_nulls ∷ []) ≡ []
  pub nulls_alone_possible : minimal_keys Possible 3 (two_nulls ∷ two_nulls ∷ []) ≡ 1 ∷ 2 ∷ []
  pub either_column : minimal_keys Certain 3 (one_two ∷ two_one ∷ []) ≡ 1 ∷ 2 ∷ []
  pub both_columns : minimal_keys Certain 3 (one_two ∷ two_one ∷ one_one ∷ []) ≡ 3 ∷ []
  pub no_column : minimal_keys Possible 0 (one_two ∷ two_one ∷ []) ≡ []
  pub one_column : minimal_keys Certain 2 (one_two ∷ one_one ∷ []) ≡ 2 ∷ []

pub record LimitsAtTheirEdges : Type 0 where
  pub no_row : refusal 3 [] ≡ None
  pub one_row : refusal 3 (one_two ∷ []) ≡ None
  pub equal_rows : refusal 3 (one_two ∷ one_two ∷ []) ≡ None
  pub nulls_alone : refusal 3 (two_nulls ∷ two_nulls ∷ []) ≡ None
  pub both_columns : refusal 3 (one_two ∷ two_one ∷ one_one ∷ []) ≡ None

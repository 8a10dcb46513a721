-- Pairs of rows at their edges, computed. Columns 0 and 1 are the sets 1 and 2.
use Rattle.std.specs.Prelude.{◌≡◌, ℕ, List, [], ◌∷◌, pos}
use Rattle.pk_values.specs.declared.value.Value.{Value}
use Rattle.pk_values.specs.declared.value.Value.TheVariants.{Null, Integer}
use Rattle.pk_sweep.specs.Pairs.{set_of, apart_sets, not_same_sets}

abbrev pub both : List ℕ
both = 0 ∷ 1 ∷ []

abbrev pub one_two : List Value
one_two = Integer (pos 1) ∷ Integer (pos 2) ∷ []

abbrev pub one_null : List Value
one_null = Integer (pos 1) ∷ Null ∷ []

abbrev pub two_nulls : List Value
two_nulls = Null ∷ Null ∷ []

abbrev pub two_two : List Value
two_two = Integer (pos 2) ∷ Integer (pos 2) ∷ []

pub record PairsAtTheirEdges : Type 0 where
  pub no_row : apart_sets both [] ≡ []
  pub one_row : not_same_sets both (one_null ∷ []) ≡ []
  pub equal_rows_apart : apart_sets both (one_two ∷ one_two ∷ []) ≡ 0 ∷ []
  pub equal_rows_not_same : not_same_sets both (one_two ∷ one_two ∷ []) ≡ 0 ∷ []
  pub equal_nulls_apart : apart_sets both (one_null ∷ one_null ∷ []) ≡ 0 ∷ []
  pub equal_nulls_not_same : not_same_sets both (one_null ∷ one_null ∷ []) ≡ 2 ∷ []
  pub nulls_alone_apart : apart_sets both (two_nulls ∷ two_nulls ∷ []) ≡ 0 ∷ []
  pub nulls_alone_not_same : not_same_sets both (two_nulls ∷ two_nulls ∷ []) ≡ 3 ∷ []
  pub one_column_apart : apart_sets both (one_two ∷ two_two ∷ []) ≡ 1 ∷ []
  pub all_pairs_apart : apart_sets both (one_two ∷ one_null ∷ two_two ∷ []) ≡ 0 ∷ 1 ∷ 1 ∷ []
  pub all_pairs_not_same : not_same_sets both (one_two ∷ one_null ∷ two_two ∷ []) ≡ 2 ∷ 1 ∷ 3 ∷ []
  pub no_column : not_same_sets [] (one_two ∷ two_two ∷ []) ≡ 0 ∷ []
  pub behind_columns : set_of (0 ∷ 31 ∷ []) ≡ 2147483649

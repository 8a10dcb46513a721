use Rattle.std.proofs.Common.{refl}
use Rattle.pk_values.specs.Values.{same_value}
use Rattle.pk_similar.specs.Similarity.{apart, not_same}
use Rattle.pk_sweep.specs.Pairs.{set_of, pair_sets}
use Rattle.pk_sweep.proofs.laws.definitions_at_their_edges.Goals as goal

pub returns : goal.returns
unfolding same_value apart not_same set_of pair_sets
returns c = record {
  no_row = refl;
  one_row = refl;
  equal_rows_apart = refl;
  equal_rows_not_same = refl;
  equal_nulls_apart = refl;
  equal_nulls_not_same = refl;
  nulls_alone_apart = refl;
  nulls_alone_not_same = refl;
  one_column_apart = refl;
  all_pairs_apart = refl;
  all_pairs_not_same = refl;
  no_column = refl;
  behind_columns = refl;
}

use Rattle.std.proofs.Common.{refl}
use Rattle.pk_values.specs.ColumnSet.{columns, is_subset}
use Rattle.pk_values.specs.Values.{same_value}
use Rattle.pk_similar.specs.Similarity.{weak, strong, apart, not_same}
use Rattle.pk_sweep.specs.Pairs.{set_of, pair_sets}
use Rattle.pk_transversal.specs.Minimal.{minimal_of}
use Rattle.pk_transversal.specs.Transversals.{meets_all, union, parts, transversals, first_beyond, edge_limit}
use Rattle.pk_discover.specs.Keys.{minimal_keys}
use Rattle.pk_discover.specs.Limits.{either_beyond, refusal}
use Rattle.pk_discover.proofs.laws.definitions_at_their_edges.Goals as goal

pub returns-clause-keys : goal.returns-clause-keys
unfolding columns is_subset same_value weak strong minimal_of parts minimal_keys
returns-clause-keys c = record {
  no_row = refl;
  one_row = refl;
  one_row_of_nulls = refl;
  one_row_possible = refl;
  equal_rows_certain = refl;
  equal_rows_possible = refl;
  equal_nulls_certain = refl;
  equal_nulls_possible = refl;
  nulls_alone_certain = refl;
  nulls_alone_possible = refl;
  either_column = refl;
  both_columns = refl;
  no_column = refl;
  one_column = refl;
}

pub returns-clause-limits : goal.returns-clause-limits
unfolding columns is_subset same_value apart not_same set_of pair_sets minimal_of meets_all union parts transversals first_beyond edge_limit either_beyond refusal
returns-clause-limits c = record { no_row = refl; one_row = refl; equal_rows = refl; nulls_alone = refl; both_columns = refl }

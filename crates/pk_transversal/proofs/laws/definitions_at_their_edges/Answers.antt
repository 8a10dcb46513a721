use Rattle.std.proofs.Common.{refl}
use Rattle.pk_values.specs.ColumnSet.{columns, is_subset}
use Rattle.pk_transversal.specs.Minimal.{minimal_of}
use Rattle.pk_transversal.specs.Transversals.{meets_all, union, parts, transversals, first_beyond, edge_limit}
use Rattle.pk_transversal.proofs.laws.definitions_at_their_edges.Goals as goal

pub returns-clause-transversals : goal.returns-clause-transversals
unfolding columns is_subset minimal_of meets_all union parts transversals
returns-clause-transversals c = record {
  no_edge = refl;
  empty_edge = refl;
  empty_edge_among_others = refl;
  one_edge = refl;
  shared_column = refl;
  edge_twice = refl;
  three_pairs_of_three = refl;
  smaller_before_lesser_columns = refl;
}

pub returns-clause-minimal_sets : goal.returns-clause-minimal_sets
unfolding columns is_subset minimal_of
returns-clause-minimal_sets c = record { none = refl; one_inside_all = refl; twice = refl; in_order = refl }

pub returns-clause-limits : goal.returns-clause-limits
unfolding columns is_subset minimal_of meets_all union parts transversals first_beyond edge_limit
returns-clause-limits c = record {
  reached = refl;
  passed_at_once = refl;
  passed_on_the_way = refl;
  no_more_at_the_end = refl;
  larger_edges_count_for_nothing = refl;
  no_set_at_all = refl;
  no_set_at_all_with_an_empty_edge = refl;
}

-- Transversals at their edges, computed. Columns 0 to 3 are the sets 1, 2, 4 and 8.
use Rattle.std.specs.Prelude.{◌≡◌, [], ◌∷◌, None, Some}
use Rattle.pk_transversal.specs.Minimal.{minimal_of}
use Rattle.pk_transversal.specs.Transversals.{transversals, edge_limit}

pub record TransversalsAtTheirEdges : Type 0 where
  pub no_edge : transversals [] ≡ 0 ∷ []
  pub empty_edge : transversals (0 ∷ []) ≡ []
  pub empty_edge_among_others : transversals (3 ∷ 0 ∷ []) ≡ []
  pub one_edge : transversals (5 ∷ []) ≡ 1 ∷ 4 ∷ []
  pub shared_column : transversals (3 ∷ 6 ∷ []) ≡ 2 ∷ 5 ∷ []
  pub edge_twice : transversals (3 ∷ 3 ∷ []) ≡ 1 ∷ 2 ∷ []
  pub three_pairs_of_three : transversals (3 ∷ 5 ∷ 6 ∷ []) ≡ 3 ∷ 5 ∷ 6 ∷ []
  pub smaller_before_lesser_columns : transversals (9 ∷ 10 ∷ 12 ∷ []) ≡ 8 ∷ 7 ∷ []

pub record MinimalSetsAtTheirEdges : Type 0 where
  pub none : minimal_of [] ≡ []
  pub one_inside_all : minimal_of (3 ∷ 0 ∷ 1 ∷ []) ≡ 0 ∷ []
  pub twice : minimal_of (6 ∷ 6 ∷ []) ≡ 6 ∷ []
  pub in_order : minimal_of (6 ∷ 7 ∷ 5 ∷ 8 ∷ []) ≡ 8 ∷ 5 ∷ 6 ∷ []

pub record LimitsAtTheirEdges : Type 0 where
  pub reached : edge_limit 2 (3 ∷ 6 ∷ []) ≡ None
  pub passed_at_once : edge_limit 1 (3 ∷ []) ≡ Some 1
  pub passed_on_the_way : edge_limit 3 (10 ∷ 6 ∷ 9 ∷ []) ≡ Some 2
  pub no_more_at_the_end : transversals (10 ∷ 6 ∷ 9 ∷ []) ≡ 3 ∷ 10 ∷ 12 ∷ []
  pub larger_edges_count_for_nothing : edge_limit 1 (7 ∷ 1 ∷ 14 ∷ 15 ∷ []) ≡ Some 2
  pub no_set_at_all : edge_limit 0 [] ≡ Some 0
  pub no_set_at_all_with_an_empty_edge : edge_limit 0 (0 ∷ []) ≡ Some 0

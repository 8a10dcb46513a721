use Rattle.std.proofs.Common.{refl}
use Rattle.pk_values.specs.ColumnSet.{columns, is_subset}
use Rattle.pk_transversal.specs.Minimal.{minimal_of}
use Rattle.pk_transversal.specs.Transversals.{meets_all, union, parts, transversals}
use Rattle.pk_examples.specs.Family.{examples}
use Rattle.pk_examples.proofs.laws.definitions_at_their_edges.Goals as goal

pub returns : goal.returns
unfolding columns is_subset minimal_of meets_all union parts transversals examples
returns c = record {
  no_column = refl;
  no_key = refl;
  key_without_columns = refl;
  certain_key = refl;
  possible_key_that_may_be_null = refl;
  possible_key_that_may_not = refl;
  in_order_of_what_is_outside = refl;
  two_keys = refl;
  first_of_32 = refl;
}

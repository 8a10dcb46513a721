use Rattle.std.proofs.lemmas.List.Elements.{All-contains}
use Rattle.pk_values.specs.ColumnSet.{IsColumnSet}
use Rattle.pk_transversal.proofs.LimitLemmas.{minimal_of_same, transversals_of_same, limit_of_same}
use Rattle.pk_transversal.proofs.laws.order_tells_nothing.Goals as goal

pub returns : goal.returns
returns c = record {
  minimal = minimal_of_same;
  sets = λ xs ys xs_sets ys_sets same.
      transversals_of_same xs ys (λ x found. All-contains IsColumnSet xs x xs_sets found) (λ x found. All-contains IsColumnSet ys x ys_sets found) same;
  limit = limit_of_same;
}

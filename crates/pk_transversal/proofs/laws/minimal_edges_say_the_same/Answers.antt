use Rattle.std.proofs.lemmas.List.Elements.{All-contains}
use Rattle.pk_values.specs.ColumnSet.{IsColumnSet}
use Rattle.pk_transversal.proofs.TransversalLemmas.{minimal_edges_same}
use Rattle.pk_transversal.proofs.laws.minimal_edges_say_the_same.Goals as goal

pub returns : goal.returns
returns c = λ edges are_sets. minimal_edges_same edges (λ x found. All-contains IsColumnSet edges x are_sets found)

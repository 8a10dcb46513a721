use Rattle.std.proofs.lemmas.List.Elements.{All-contains}
use Rattle.pk_values.specs.ColumnSet.{IsColumnSet}
use Rattle.pk_transversal.proofs.TransversalLemmas.{transversals_listed}
use Rattle.pk_transversal.proofs.laws.transversals_are_listed.Goals as goal

pub returns : goal.returns
returns c = λ edges are_sets. transversals_listed edges (λ x found. All-contains IsColumnSet edges x are_sets found)

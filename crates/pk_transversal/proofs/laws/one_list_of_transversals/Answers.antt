use Rattle.std.proofs.lemmas.List.Elements.{All-contains}
use Rattle.pk_values.specs.ColumnSet.{IsColumnSet}
use Rattle.pk_transversal.specs.Laws.{MeetsAll}
use Rattle.pk_transversal.specs.Minimal.{IsMinimal}
use Rattle.pk_transversal.specs.Transversals.{transversals}
use Rattle.pk_transversal.proofs.OrderLemmas.{one_list}
use Rattle.pk_transversal.proofs.TransversalLemmas.{transversals_listed}
use Rattle.pk_transversal.proofs.laws.one_list_of_transversals.Goals as goal

pub returns : goal.returns
returns c = λ edges sets are_sets listed.
    one_list (IsMinimal (MeetsAll edges)) sets (transversals edges) listed (transversals_listed edges (λ x found. All-contains IsColumnSet edges x are_sets found))

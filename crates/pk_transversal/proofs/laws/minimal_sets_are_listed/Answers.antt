use Rattle.pk_transversal.proofs.MinimalLemmas.{minimal_listed}
use Rattle.pk_transversal.proofs.laws.minimal_sets_are_listed.Goals as goal

pub returns : goal.returns
returns c = minimal_listed

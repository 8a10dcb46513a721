use Rattle.pk_discover.proofs.MinimalLemmas.{keys_listed}
use Rattle.pk_discover.proofs.laws.minimal_keys_are_listed.Goals as goal

pub returns : goal.returns
returns c = keys_listed c.minimal_sets_are_listed.ensures

use Rattle.pk_engine.proofs.MadeLemmas.{updates_set}
use Rattle.pk_engine.proofs.laws.updates_set_rows.Goals as goal

pub returns : goal.returns
returns c = updates_set

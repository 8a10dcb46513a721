use Rattle.pk_engine.proofs.MadeLemmas.{entries_stand}
use Rattle.pk_engine.proofs.laws.entries_are_committed.Goals as goal

pub returns : goal.returns
returns c = entries_stand

use Rattle.pk_engine.proofs.MadeLemmas.{deletes_leave}
use Rattle.pk_engine.proofs.laws.deletes_leave_the_rest.Goals as goal

pub returns : goal.returns
returns c = deletes_leave

use Rattle.pk_engine.proofs.OtherLemmas.{refusals_leave}
use Rattle.pk_engine.proofs.laws.refusals_change_nothing.Goals as goal

pub returns : goal.returns
returns c = refusals_leave

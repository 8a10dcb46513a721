use Rattle.pk_engine.proofs.OtherLemmas.{selects_leave}
use Rattle.pk_engine.proofs.laws.selects_change_nothing.Goals as goal

pub returns : goal.returns
returns c = selects_leave

use Rattle.pk_engine.proofs.OtherLemmas.{others_stay}
use Rattle.pk_engine.proofs.laws.statements_leave_other_tables.Goals as goal

pub returns : goal.returns
returns c = others_stay

use Rattle.pk_logic.proofs.KindLemmas.{may_be_judged}
use Rattle.pk_logic.proofs.laws.conditions_over_kinds_are_judgeable.Goals as goal

pub returns : goal.returns
returns c = λ kinds row cond fits over. may_be_judged kinds row fits cond over

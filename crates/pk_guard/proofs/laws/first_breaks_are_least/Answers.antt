use Rattle.pk_guard.proofs.LeastLemmas.{first_breaks_are_least}
use Rattle.pk_guard.proofs.laws.first_breaks_are_least.Goals as goal

pub returns : goal.returns
returns c = first_breaks_are_least c.weak_rows_may_agree.ensures c.strong_rows_must_agree.ensures

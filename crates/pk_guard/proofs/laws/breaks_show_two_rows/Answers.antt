use Rattle.pk_guard.proofs.LeastLemmas.{breaks_show_two_rows}
use Rattle.pk_guard.proofs.laws.breaks_show_two_rows.Goals as goal

pub returns : goal.returns
returns c = breaks_show_two_rows c.weak_rows_may_agree.ensures c.strong_rows_must_agree.ensures

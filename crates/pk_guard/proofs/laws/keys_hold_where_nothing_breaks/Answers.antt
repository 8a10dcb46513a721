use Rattle.pk_guard.proofs.KeyLemmas.{keys_hold_nothing_breaks}
use Rattle.pk_guard.proofs.laws.keys_hold_where_nothing_breaks.Goals as goal

pub returns : goal.returns
returns c = keys_hold_nothing_breaks

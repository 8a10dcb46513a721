use Rattle.pk_exec.proofs.ListLemmas.{rise_at}
use Rattle.pk_exec.proofs.laws.ids_are_no_lower.Goals as goal

pub returns : goal.returns
returns c = λ least rows i p up within. rise_at least rows i p up within

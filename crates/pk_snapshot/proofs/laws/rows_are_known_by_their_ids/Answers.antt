use Rattle.pk_snapshot.proofs.RisingLemmas.{to_rising, known}
use Rattle.pk_snapshot.proofs.laws.rows_are_known_by_their_ids.Goals as goal

pub returns : goal.returns
returns c = λ least other rows others up rise same. known least other rows others (to_rising least rows up) (to_rising other others rise) same

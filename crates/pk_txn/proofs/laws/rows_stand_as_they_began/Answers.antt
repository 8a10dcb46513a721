use Rattle.pk_txn.proofs.HistoryLemmas.{rows_stand}
use Rattle.pk_txn.proofs.laws.rows_stand_as_they_began.Goals as goal

pub returns : goal.returns
returns c = rows_stand

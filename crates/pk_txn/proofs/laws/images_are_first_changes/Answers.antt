use Rattle.pk_txn.proofs.HistoryLemmas.{first_changes, changed_at}
use Rattle.pk_txn.proofs.laws.images_are_first_changes.Goals as goal

pub returns : goal.returns
returns c = record { all = first_changes; one_more = λ t note key. changed_at note.commit note.befores t key }

use Rattle.pk_txn.proofs.SessionLemmas.{begun_own, begun_other, noted_each, finished_own, finished_other}
use Rattle.pk_txn.proofs.laws.sessions_are_apart.Goals as goal

pub returns : goal.returns
returns c = record {
  begun_own = begun_own;
  begun_other = begun_other;
  noted_each = noted_each;
  finished_own = finished_own;
  finished_other = finished_other;
}

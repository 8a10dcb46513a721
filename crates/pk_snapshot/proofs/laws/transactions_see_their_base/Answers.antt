use Rattle.pk_snapshot.proofs.SeenLemmas.{sees_its_base}
use Rattle.pk_snapshot.proofs.laws.transactions_see_their_base.Goals as goal

pub returns : goal.returns
returns c = sees_its_base c.rows_stand_as_they_began.ensures

use Rattle.pk_engine.proofs.MadeLemmas.{inserts_add}
use Rattle.pk_engine.proofs.laws.inserts_add_rows.Goals as goal

pub returns : goal.returns
returns c = inserts_add

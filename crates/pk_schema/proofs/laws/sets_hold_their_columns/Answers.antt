use Rattle.pk_schema.proofs.CountLemmas.{sets_hold}
use Rattle.pk_schema.proofs.laws.sets_hold_their_columns.Goals as goal

pub returns : goal.returns
returns c = sets_hold

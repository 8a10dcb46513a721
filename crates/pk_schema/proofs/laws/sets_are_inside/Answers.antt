use Rattle.pk_schema.proofs.SetLemmas.{set_small}
use Rattle.pk_schema.proofs.laws.sets_are_inside.Goals as goal

pub returns : goal.returns
returns c = set_small

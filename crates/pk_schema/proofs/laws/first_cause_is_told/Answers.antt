use Rattle.pk_schema.proofs.CauseLemmas.{first_cause}
use Rattle.pk_schema.proofs.laws.first_cause_is_told.Goals as goal

pub returns : goal.returns
returns c = first_cause

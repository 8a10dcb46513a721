use Rattle.pk_parse.proofs.UnitReading.{conditions_read}
use Rattle.pk_parse.proofs.conditions.conditions_are_read.Goals as goal

pub returns : goal.returns
returns c = conditions_read

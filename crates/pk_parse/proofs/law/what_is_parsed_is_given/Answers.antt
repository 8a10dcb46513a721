use Rattle.pk_parse.proofs.StatementGiven.{parsed_is_given}
use Rattle.pk_parse.proofs.law.what_is_parsed_is_given.Goals as goal

pub returns : goal.returns
returns c = parsed_is_given

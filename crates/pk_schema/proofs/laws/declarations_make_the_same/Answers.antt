use Rattle.pk_schema.proofs.RemakeLemmas.{declarations_make_the_same}
use Rattle.pk_schema.proofs.laws.declarations_make_the_same.Goals as goal

pub returns : goal.returns
returns c = declarations_make_the_same

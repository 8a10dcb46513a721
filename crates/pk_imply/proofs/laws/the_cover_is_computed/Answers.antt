use Rattle.pk_imply.proofs.TruthLemmas.{cover_computed}
use Rattle.pk_imply.proofs.laws.the_cover_is_computed.Goals as goal

pub returns : goal.returns
returns c = cover_computed

use Rattle.pk_engine.proofs.ReasonLemmas.{cover_is_told}
use Rattle.pk_engine.proofs.laws.the_cover_is_told.Goals as goal

pub returns : goal.returns
returns c =
    cover_is_told c.shapes_are_plain.ensures c.the_cover_is_computed.ensures

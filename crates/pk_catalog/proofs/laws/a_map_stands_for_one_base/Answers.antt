use Rattle.pk_catalog.proofs.OneBase.{one_base}
use Rattle.pk_catalog.proofs.laws.a_map_stands_for_one_base.Goals as goal

pub returns : goal.returns
returns c = one_base

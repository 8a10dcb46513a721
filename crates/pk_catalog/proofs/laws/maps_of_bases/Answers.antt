use Rattle.pk_catalog.proofs.MapBases.{maps_of_bases}
use Rattle.pk_catalog.proofs.laws.maps_of_bases.Goals as goal

pub returns : goal.returns
returns c = maps_of_bases

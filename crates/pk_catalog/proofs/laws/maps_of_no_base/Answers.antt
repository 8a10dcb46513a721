use Rattle.pk_catalog.proofs.NoBases.{maps_of_no_base}
use Rattle.pk_catalog.proofs.laws.maps_of_no_base.Goals as goal

pub returns : goal.returns
returns c = maps_of_no_base

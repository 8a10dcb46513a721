use Rattle.pk_catalog.proofs.Committing.{bases_have_maps}
use Rattle.pk_catalog.proofs.laws.bases_have_maps.Goals as goal

pub returns : goal.returns
returns c = bases_have_maps

use Rattle.std.proofs.Common.{refl}
use Rattle.pk_imply.specs.Deriving.{implying_place}
use Rattle.pk_imply.proofs.PlaceLemmas.{true_of_tables}
use Rattle.pk_imply.proofs.laws.places_are_true_of_tables.Goals as goal

pub returns : goal.returns
returns c = λ s k plain inside. true_of_tables s k (implying_place s k) plain inside refl

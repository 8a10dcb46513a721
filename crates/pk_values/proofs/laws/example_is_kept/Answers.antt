use Rattle.std.proofs.Common.{refl}
use Rattle.pk_values.proofs.laws.example_is_kept.Goals as goal

pub returns : goal.returns
returns c = refl

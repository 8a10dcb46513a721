use Rattle.pk_imply.proofs.RuleSteps.{derived_holds}
use Rattle.pk_imply.proofs.laws.derivations_are_sound.Goals as goal

pub returns : goal.returns
returns c = derived_holds

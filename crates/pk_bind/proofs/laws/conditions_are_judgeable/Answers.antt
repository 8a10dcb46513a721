use Rattle.pk_bind.proofs.SetLemmas.{bound_judgeable}
use Rattle.pk_bind.proofs.laws.conditions_are_judgeable.Goals as goal

pub returns : goal.returns
returns c = λ s row cond admitted fits. bound_judgeable s row cond admitted fits

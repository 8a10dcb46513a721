use Rattle.pk_imply.proofs.RuleSteps.{rules_lead}
use Rattle.pk_imply.proofs.laws.rules_lead_to_the_key.Goals as goal

pub returns : goal.returns
returns c = rules_lead

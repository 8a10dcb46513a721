use Rattle.pk_rule.proofs.RuleLemmas.{implied_holds, holds_implied}
use Rattle.pk_rule.proofs.laws.the_rule_is_the_truth.Goals as goal

pub returns : goal.returns
returns c = λ s k plain inside. ((λ implied. holds_implied s k plain inside implied), (λ named. implied_holds s k plain inside named))

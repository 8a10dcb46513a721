use Rattle.pk_rule.specs.Laws.{with_key}
use Rattle.pk_rule.proofs.RuleLemmas.{implied_holds, holds_implied, one_named, one_named_back}
use Rattle.pk_rule.proofs.laws.one_key_alone_implies.Goals as goal

pub returns : goal.returns
returns c = λ s d k plain inside. (
  (λ implied. one_named s d k (holds_implied (with_key s d) k plain inside implied)),
  (λ alone. implied_holds (with_key s d) k plain inside (one_named_back s d k alone)),
)

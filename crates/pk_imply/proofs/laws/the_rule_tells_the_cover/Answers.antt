use Rattle.pk_imply.proofs.TruthLemmas.{true_cover, cover_by_rule}
use Rattle.pk_imply.proofs.laws.the_rule_tells_the_cover.Goals as goal

pub returns : goal.returns
returns c = λ s keys plain. (true_cover s keys plain, cover_by_rule s keys plain)

use Rattle.pk_values.specs.ColumnSet.{columns}
use Rattle.pk_rule.proofs.StepLemmas.{weakened}
use Rattle.pk_rule.proofs.laws.weakening.Goals as goal

pub returns : goal.returns
returns c = λ kinds rows set fit certain. weakened kinds rows (columns set) fit certain

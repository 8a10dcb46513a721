use Rattle.pk_values.specs.ColumnSet.{columns}
use Rattle.pk_rule.proofs.StepLemmas.{strengthened}
use Rattle.pk_rule.proofs.laws.strengthening.Goals as goal

pub returns : goal.returns
returns c = λ kinds rows set known possible. strengthened kinds rows (columns set) known possible

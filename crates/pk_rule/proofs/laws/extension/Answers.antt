use Rattle.pk_values.specs.ColumnSet.{columns}
use Rattle.pk_rule.proofs.ColumnLemmas.{subset_among}
use Rattle.pk_rule.proofs.StepLemmas.{extended}
use Rattle.pk_rule.proofs.laws.extension.Goals as goal

pub returns : goal.returns
returns c = λ kinds rows sort set more is_set inside holds. extended kinds rows sort (columns more) (columns set) (subset_among set more is_set inside) holds

use Rattle.pk_rule.proofs.RuleLemmas.{two_rows_are_table, two_rows_break}
use Rattle.pk_rule.proofs.laws.two_rows_refute.Goals as goal

pub returns : goal.returns
returns c = λ s k plain inside none. (two_rows_are_table s k plain none, two_rows_break s k inside)

use Rattle.pk_examples.proofs.HoldLemmas.{examples_tell}
use Rattle.pk_examples.proofs.laws.examples_tell_the_keys.Goals as goal

pub returns : goal.returns
returns c = examples_tell c.the_rule_is_the_truth.ensures c.two_rows_refute.ensures c.extension.ensures c.transversals_are_listed.ensures

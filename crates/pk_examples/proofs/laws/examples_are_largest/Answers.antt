use Rattle.pk_examples.proofs.LargestLemmas.{largest_listed}
use Rattle.pk_examples.proofs.laws.examples_are_largest.Goals as goal

pub returns : goal.returns
returns c = largest_listed c.the_rule_is_the_truth.ensures c.transversals_are_listed.ensures

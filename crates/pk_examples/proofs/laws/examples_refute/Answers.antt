use Rattle.pk_examples.proofs.HoldLemmas.{examples_refute}
use Rattle.pk_examples.proofs.laws.examples_refute.Goals as goal

pub returns : goal.returns
returns c = examples_refute c.the_rule_is_the_truth.ensures c.two_rows_refute.ensures c.transversals_are_listed.ensures

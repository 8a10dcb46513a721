use Rattle.pk_engine.proofs.ReasonLemmas.{implies_is_true}
use Rattle.pk_engine.proofs.laws.implies_tells_the_truth.Goals as goal

pub returns : goal.returns
returns c =
    implies_is_true c.the_rule_is_the_truth.ensures c.two_rows_refute.ensures c.shapes_are_plain.ensures c.sets_are_inside.ensures c.places_are_true_of_tables.ensures
    c.rules_lead_to_the_key.ensures

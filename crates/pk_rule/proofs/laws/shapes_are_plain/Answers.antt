use Rattle.pk_rule.proofs.ShapeLemmas.{plain_shape}
use Rattle.pk_rule.proofs.laws.shapes_are_plain.Goals as goal

pub returns : goal.returns
returns c = λ s shape. plain_shape s shape

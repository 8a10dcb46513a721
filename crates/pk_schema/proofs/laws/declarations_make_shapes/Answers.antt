use Rattle.pk_schema.proofs.ShapeLemmas.{declarations_make_shapes}
use Rattle.pk_schema.proofs.laws.declarations_make_shapes.Goals as goal

pub returns : goal.returns
returns c = declarations_make_shapes

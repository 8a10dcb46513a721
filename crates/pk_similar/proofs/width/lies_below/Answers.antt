use Rattle.std.proofs.Common.{◌∙◌}
use Rattle.pk_similar.proofs.WalkLemmas.{subset_below}
use Rattle.pk_similar.proofs.width.lies_below.Goals as goal

pub returns : goal.returns
returns c = c.is_inside.ensures ∙ subset_below c.args.x c.below.result c.args.width c.below.ensures.members

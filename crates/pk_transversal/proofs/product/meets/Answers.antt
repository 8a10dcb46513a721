use Rattle.std.proofs.Common.{◌∙◌}
use Rattle.pk_transversal.proofs.MeetLemmas.{meets_by_rest}
use Rattle.pk_transversal.proofs.product.meets.Goals as goal

pub returns : goal.returns
returns c = c.ne.ensures ∙ meets_by_rest c.args.set c.args.edge c.minus.result c.requires c.minus.ensures.members

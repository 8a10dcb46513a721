use Rattle.pk_transversal.proofs.SetLemmas.{copied_more}
use Rattle.std.proofs.Common.{◌∙◌}
use Rattle.pk_transversal.proofs.minimal_sets.copied.Goals as goal

pub loop-set-preserved : goal.loop-set-preserved
loop-set-preserved c =
    let more =
    copied_more c.args.sets.now c.loop-set.copies.items c.loop-set.set-index c.set-item.result c.plus.result c.loop-set-test.true c.set-item.is c.plus.ensures.set c.plus.ensures.members
    c.loop-set.invariant in
    (more.0, c.in_ok-push.ensures.items ∙ more.1)

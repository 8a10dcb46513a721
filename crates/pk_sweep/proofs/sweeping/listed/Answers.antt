use Rattle.pk_values.proofs.WalkLemmas.{walk_on, walk_shorter}
use Rattle.pk_sweep.proofs.ListLemmas.{walked_more}
use Rattle.pk_sweep.proofs.sweeping.listed.Goals as goal

pub loop-c-smaller : goal.loop-c-smaller
loop-c-smaller c = walk_shorter _ _ _ (walk_on _ _ _ c.in-Some.ensures.least c.without-rest.ensures.members)

pub loop-c-preserved : goal.loop-c-preserved
loop-c-preserved c =
    walked_more c.loop-c.listed.items c.push.new.self.items _ _ _ c.in-Some.c (walk_on _ _ _ c.in-Some.ensures.least c.without-rest.ensures.members) c.in_ok-push.ensures.items
    c.loop-c.invariant

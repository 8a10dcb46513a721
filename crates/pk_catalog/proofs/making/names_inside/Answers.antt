use Rattle.std.proofs.Common.{◌∙◌}
use Rattle.pk_values.proofs.WalkLemmas.{walk_on, walk_shorter}
use Rattle.pk_catalog.proofs.SchemaMaking.{name_more, name_passed, no_more}
use Rattle.pk_catalog.proofs.making.names_inside.Goals as goal

pub loop-c-smaller-in_ok-push : goal.loop-c-smaller-in_ok-push
loop-c-smaller-in_ok-push c = walk_shorter _ _ _ (walk_on _ _ _ c.in-Some.ensures.least c.without-rest.ensures.members)

pub loop-c-preserved-in_ok-push : goal.loop-c-preserved-in_ok-push
loop-c-preserved-in_ok-push c =
    name_more _ _ _ _ _ _ _ _ (walk_on _ _ _ c.in-Some.ensures.least c.without-rest.ensures.members) c.if-c-columns.true c.in_ok-copy.ensures c.in_ok-push.ensures.items
    ∙ c.loop-c.invariant

pub loop-c-smaller : goal.loop-c-smaller
loop-c-smaller c = walk_shorter _ _ _ (walk_on _ _ _ c.in-Some.ensures.least c.without-rest.ensures.members)

pub loop-c-preserved : goal.loop-c-preserved
loop-c-preserved c =
    name_passed _ _ _ _ _ (walk_on _ _ _ c.in-Some.ensures.least c.without-rest.ensures.members) c.if-c-columns.false ∙ c.loop-c.invariant

pub returns : goal.returns
returns c = rw c.from_vec.ensures (no_more c.args.columns.now c.args.set c.loop-c.rest c.loop-c.names.items c.in_default.ensures.least c.loop-c.invariant)

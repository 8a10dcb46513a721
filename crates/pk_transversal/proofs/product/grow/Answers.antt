use Rattle.std.proofs.Common.{sym, ◌∙◌, ap, ◌++◌}
use Rattle.pk_values.specs.ColumnSet.{columns}
use Rattle.pk_values.proofs.WalkLemmas.{walk_on, walk_shorter}
use Rattle.pk_transversal.specs.Steps.{grown}
use Rattle.pk_transversal.proofs.SetLemmas.{with_column_is}
use Rattle.pk_transversal.proofs.ProductLemmas.{grown_more, grown_passed}
use Rattle.pk_transversal.proofs.product.grow.Goals as goal

pub loop-c-smaller-in-Continue-1 : goal.loop-c-smaller-in-Continue-1
loop-c-smaller-in-Continue-1 c = walk_shorter _ _ _ (walk_on _ _ _ c.in-Some.ensures.least c.without-rest.ensures.members)

pub loop-c-preserved-in-Continue-1 : goal.loop-c-preserved-in-Continue-1
loop-c-preserved-in-Continue-1 c =
    ap (λ xs. xs ++ grown c.args.kept.now (columns c.without-rest.result) c.args.set) c.in_ok-push.ensures.items
    ∙ grown_more c.args.kept.now c.args.set c.in-Some.c c.with-larger.result _ _ _ _ (walk_on _ _ _ c.in-Some.ensures.least c.without-rest.ensures.members)
    (with_column_is c.with-larger.result c.args.set c.in-Some.c c.with-larger.ensures.members)
    (sym c.has_inside.ensures ∙ c.if-not-has_inside.true) c.loop-c.invariant

pub loop-c-smaller : goal.loop-c-smaller
loop-c-smaller c = walk_shorter _ _ _ (walk_on _ _ _ c.in-Some.ensures.least c.without-rest.ensures.members)

pub loop-c-preserved : goal.loop-c-preserved
loop-c-preserved c =
    grown_passed c.args.kept.now c.args.set c.in-Some.c c.with-larger.result _ _ _ _ (walk_on _ _ _ c.in-Some.ensures.least c.without-rest.ensures.members)
    (with_column_is c.with-larger.result c.args.set c.in-Some.c c.with-larger.ensures.members)
    (sym c.has_inside.ensures ∙ c.if-not-has_inside.false) c.loop-c.invariant

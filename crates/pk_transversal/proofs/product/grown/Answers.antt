use Rattle.std.proofs.Common.{arith}
use Rattle.pk_transversal.proofs.ProductLemmas.{all_grown_more, all_grown_done}
use Rattle.pk_transversal.proofs.product.grown.Goals as goal

pub loop-set-preserved : goal.loop-set-preserved
loop-set-preserved c =
    all_grown_more _ _ c.args.others.now c.loop-set.made.items c.grow.new.made.items _ c.loop-set.set-index c.set-item.result c.loop-set-test.true c.set-item.is c.in_ok-grow.ensures
    c.loop-set.invariant

pub returns : goal.returns
returns c = all_grown_done _ _ c.args.others.now c.loop-set.made.items _ c.loop-set.set-index (omega (arith, c.loop-set-test.false)) c.loop-set.invariant

use Rattle.std.proofs.Common.{arith}
use Rattle.pk_sweep.proofs.CodeLemmas.{differing_more, differing_done}
use Rattle.pk_sweep.proofs.pairs.differing.Goals as goal

pub loop-column-preserved : goal.loop-column-preserved
loop-column-preserved c =
    differing_more c.args.columns.now c.args.i c.args.j c.loop-column.column-index c.loop-column.set c.differing_bit-set.result c.column-item.result c.loop-column-test.true
    c.column-item.is c.differing_bit-set.ensures c.loop-column.invariant

pub returns : goal.returns
returns c = differing_done c.args.columns.now c.args.i c.args.j c.loop-column.column-index c.loop-column.set (omega (arith, c.loop-column-test.false)) c.loop-column.invariant

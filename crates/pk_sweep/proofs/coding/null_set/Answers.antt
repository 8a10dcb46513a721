use Rattle.std.proofs.Common.{arith, get_or, refl}
use Rattle.pk_sweep.proofs.CodeLemmas.{null_set_more, null_set_done}
use Rattle.pk_sweep.proofs.coding.null_set.Goals as goal

pub loop-c-preserved : goal.loop-c-preserved
loop-c-preserved c =
    null_set_more c.args.columns.now c.args.row.now c.loop-c.c-index c.loop-c.set c.null_bit-set.result (get_or c.args.columns.now c.loop-c.c-index 0) c.loop-c-test.true refl
    c.null_bit-set.ensures c.loop-c.invariant

pub returns : goal.returns
returns c = null_set_done c.args.columns.now c.args.row.now c.loop-c.c-index c.loop-c.set (omega (arith, c.loop-c-test.false)) c.loop-c.invariant

use Rattle.std.proofs.Common.{◌≤◌, length, arith}
use Rattle.pk_snapshot.proofs.TestLemmas.{one_more, none_left}
use Rattle.pk_snapshot.proofs.tests.ascends.Goals as goal

pub loop-placed-preserved : goal.loop-placed-preserved
loop-placed-preserved c =
    one_more c.args.rows.now c.loop-placed.placed-index c.loop-placed.last c.placed-item.result c.loop-placed-test.true c.placed-item.is (omega arith) c.loop-placed.invariant

pub returns : goal.returns
returns c told =
    let past : length c.args.rows.now ≤ c.loop-placed.placed-index = omega arith in
    none_left c.args.rows.now c.loop-placed.placed-index c.loop-placed.last past c.loop-placed.invariant

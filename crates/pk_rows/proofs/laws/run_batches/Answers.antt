use Rattle.std.proofs.Common.{◌≤◌, ◌∙◌, arith}
use Rattle.pk_rows.specs.Maps.{committed}
use Rattle.pk_rows.proofs.RunLemmas.{runs_on, after_on}
use Rattle.pk_rows.proofs.laws.run_batches.Goals as goal

pub commit-requires : goal.commit-requires
commit-requires g c =
    let now = c.loop-batch.invariant.runs in
    (now.0, now.1, (runs_on c.loop-batch.batch-index c.args.batches.now c.batch-item.result c.loop-batch-test.true c.batch-item.is now.0 now.2).0)

pub loop-batch-preserved : goal.loop-batch-preserved
loop-batch-preserved g c =
    let so = c.loop-batch.invariant in
    let done = c.in_ok-commit.ensures in
    let i = c.loop-batch.batch-index in
    let batch = c.batch-item.result in
    let first : g.W.Station.disk_faults c.args.station.now ≤ g.W.Station.disk_faults c.loop-batch.station = so.disk in
    let then : g.W.Station.disk_faults c.loop-batch.station ≤ g.W.Station.disk_faults c.commit.new.station = done.uses.disk in
    record {
      runs = (committed batch so.runs.0, done.stands so.runs.0 so.runs.1, (runs_on i c.args.batches.now batch c.loop-batch-test.true c.batch-item.is so.runs.0 so.runs.2).1);
      stands = λ m s.
          let k = so.stands m s in
          (committed batch k.0, done.stands k.0 k.1, after_on i c.args.batches.now batch c.loop-batch-test.true c.batch-item.is k.0 ∙ k.2);
      tells = done.uses.tells ∙ so.tells;
      disk = omega arith;
      same = λ quiet. (done.quiet quiet).same ∙ so.same quiet;
    }

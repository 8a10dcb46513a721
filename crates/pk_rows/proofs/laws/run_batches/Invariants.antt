use Rattle.std.proofs.Common.{◌≡◌, ◌≤◌, IsTrue, drop}
use Rattle.pk_rows.specs.Maps.{Map, after}
use Rattle.pk_rows.specs.Batches.{CanRun}
use Rattle.pk_rows.proofs.laws.run_batches.Given as goal

-- the batches that are left may be run, and make of each map that is stood for now what all make of one from the start
abbrev pub invariant-loop-batch : goal.invariant-loop-batch
invariant-loop-batch g l = record {
  runs : (n : Map) × g.R.Rows.stands l.rows l.station n × CanRun (drop l.batch-index l.batches) n;
  stands : (m : Map) → g.R.Rows.stands l.fn.rows l.fn.station m
      → (n : Map) × g.R.Rows.stands l.rows l.station n × (after (drop l.batch-index l.batches) n ≡ after l.batches m);
  tells : g.W.Station.tells l.station ≡ g.W.Station.tells l.fn.station;
  disk : g.W.Station.disk_faults l.fn.station ≤ g.W.Station.disk_faults l.station;
  same : IsTrue g.R.Rows.is_quiet → l.station ≡ l.fn.station;
}

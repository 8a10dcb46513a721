use Rattle.std.proofs.Common.{◌+◌, drop}
use Rattle.pk_snapshot.proofs.RisingLemmas.{Rising}
use Rattle.pk_snapshot.proofs.tests.ascends.Given as goal

-- all rows rise, if those that are left rise behind the last
abbrev pub invariant-loop-placed : goal.invariant-loop-placed
invariant-loop-placed l = Rising (l.last + 1) (drop l.placed-index l.rows) → Rising 1 l.rows

use Rattle.std.proofs.Common.{◌≡◌, length, []}
use Rattle.pk_sweep.specs.Meeting.{AreKept}
use Rattle.pk_sweep.proofs.seen.nothing.Given as goal

-- nothing is in the slots so far
abbrev pub invariant-loop : goal.invariant-loop
invariant-loop l = (length l.recent.items ≡ l.counter) × AreKept [] l.recent.items

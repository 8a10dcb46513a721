use Rattle.std.proofs.Common.{take}
use Rattle.pk_world.specs.MemoryFiles.{held}
use Rattle.pk_world.specs.History.{first_moment, after}
use Rattle.pk_world.specs.Crash.{Tracks}
use Rattle.pk_world.proofs.crash.left_of.Given as goal

-- what the calls so far come to
abbrev pub invariant-loop-call : goal.invariant-loop-call
invariant-loop-call l = Tracks l.left l.which (after (first_moment (held l.first)) (take l.call-index l.calls)) l.seen.items l.kept.items

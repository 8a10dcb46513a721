use Rattle.std.proofs.Common.{◌≡◌, take}
use Rattle.pk_imply.specs.Candidates.{candidates}
use Rattle.pk_imply.proofs.least_sets.candidates.Given as goal

-- the sets so far are those of the keys so far
abbrev pub invariant-loop-key : goal.invariant-loop-key
invariant-loop-key l = l.sets.items ≡ candidates l.known l.sort (take l.key-index l.keys)

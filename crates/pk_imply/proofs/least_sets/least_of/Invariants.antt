use Rattle.std.proofs.Common.{◌≡◌, not, filter, take}
use Rattle.pk_imply.specs.Candidates.{has_part}
use Rattle.pk_imply.proofs.least_sets.least_of.Given as goal

-- the least so far
abbrev pub invariant-loop-set : goal.invariant-loop-set
invariant-loop-set l = l.least.items ≡ filter (λ x. not (has_part l.sets x)) (take l.set-index l.sets)

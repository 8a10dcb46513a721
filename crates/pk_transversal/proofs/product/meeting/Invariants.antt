use Rattle.std.proofs.Common.{◌≡◌, take}
use Rattle.pk_transversal.specs.Steps.{meeting}
use Rattle.pk_transversal.proofs.product.meeting.Given as goal

-- those that meet the edge so far
abbrev pub invariant-loop-set : goal.invariant-loop-set
invariant-loop-set l = l.kept.items ≡ meeting l.edge (take l.set-index l.sets)

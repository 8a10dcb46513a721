use Rattle.std.proofs.Common.{◌≡◌, take}
use Rattle.pk_transversal.specs.Steps.{missing}
use Rattle.pk_transversal.proofs.product.missing.Given as goal

-- those that miss the edge so far
abbrev pub invariant-loop-set : goal.invariant-loop-set
invariant-loop-set l = l.others.items ≡ missing l.edge (take l.set-index l.sets)

use Rattle.std.proofs.Common.{◌≡◌, take}
use Rattle.std.specs.List.{All}
use Rattle.pk_values.specs.ColumnSet.{IsColumnSet}
use Rattle.pk_transversal.proofs.minimal_sets.copied.Given as goal

-- the copies so far are the sets so far, and are sets
abbrev pub invariant-loop-set : goal.invariant-loop-set
invariant-loop-set l = All IsColumnSet (take l.set-index l.sets) × (l.copies.items ≡ take l.set-index l.sets)

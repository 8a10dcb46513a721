use Rattle.std.proofs.Common.{◌≡◌, ◌++◌, length}
use Rattle.pk_values.specs.ColumnSet.{columns}
use Rattle.pk_transversal.specs.Steps.{grown}
use Rattle.pk_transversal.proofs.product.grow.Given as goal

-- what was made, and what the columns that are left make, is what all columns make
abbrev pub invariant-loop-c : goal.invariant-loop-c
invariant-loop-c l = l.made.items ++ grown l.kept (columns l.rest) l.set ≡ l.fn.made.items ++ grown l.kept (columns l.fn.edge) l.set

abbrev pub decreases-loop-c : goal.decreases-loop-c
decreases-loop-c l = length (columns l.rest)

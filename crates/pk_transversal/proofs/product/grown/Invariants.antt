use Rattle.std.proofs.Common.{◌≡◌, ◌++◌, drop}
use Rattle.pk_values.specs.ColumnSet.{columns}
use Rattle.pk_transversal.specs.Steps.{all_grown}
use Rattle.pk_transversal.proofs.product.grown.Given as goal

-- what was made, and what the sets that are left make, is what all make
abbrev pub invariant-loop-set : goal.invariant-loop-set
invariant-loop-set l =
    l.made.items ++ all_grown l.kept (columns l.edge) (drop l.set-index l.others) ≡ l.kept ++ all_grown l.kept (columns l.edge) l.others

use Rattle.std.proofs.Common.{◌≡◌, ◌++◌, length}
use Rattle.pk_values.specs.ColumnSet.{columns}
use Rattle.pk_catalog.specs.Making.{names_inside}
use Rattle.pk_catalog.proofs.making.names_inside.Given as goal

-- the names so far and those of the columns left are all names
abbrev pub invariant-loop-c : goal.invariant-loop-c
invariant-loop-c l = l.names.items ++ names_inside l.columns l.rest ≡ names_inside l.columns l.fn.set

abbrev pub decreases-loop-c : goal.decreases-loop-c
decreases-loop-c l = length (columns l.rest)

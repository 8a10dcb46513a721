use Rattle.std.proofs.Common.{◌≡◌, ◌++◌, length, IsTrue, nat_lt}
use Rattle.std.specs.List.{list_all}
use Rattle.pk_values.specs.ColumnSet.{columns}
use Rattle.pk_schema.specs.Shapes.{names_at}
use Rattle.pk_schema.proofs.declaring.names_at.Given as goal

-- the names so far and those of the columns left are all names
abbrev pub invariant-loop-c : goal.invariant-loop-c
invariant-loop-c l = record {
  names : l.names.items ++ names_at l.columns l.rest ≡ names_at l.columns l.fn.set;
  below : IsTrue (list_all (λ c. nat_lt c (length l.columns)) (columns l.rest));
}

abbrev pub decreases-loop-c : goal.decreases-loop-c
decreases-loop-c l = length (columns l.rest)

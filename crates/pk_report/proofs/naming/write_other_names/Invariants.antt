use Rattle.std.proofs.Common.{◌≡◌, ◌++◌, codes, length}
use Rattle.std.specs.List.{flat_map}
use Rattle.pk_values.specs.ColumnSet.{columns}
use Rattle.pk_report.specs.Text.{name_at}
use Rattle.pk_report.proofs.naming.write_other_names.Given as goal

-- what is written and the names still to come are the whole
abbrev pub invariant-loop-c : goal.invariant-loop-c
invariant-loop-c l =
    l.out.items ++ flat_map (λ c. codes ", " ++ name_at l.names c) (columns l.left)
    ≡ l.fn.out.items ++ flat_map (λ c. codes ", " ++ name_at l.names c) (columns l.fn.set)

abbrev pub decreases-loop-c : goal.decreases-loop-c
decreases-loop-c l = length (columns l.left)

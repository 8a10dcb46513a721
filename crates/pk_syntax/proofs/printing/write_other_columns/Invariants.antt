use Rattle.std.proofs.Common.{◌≡◌, ◌++◌, take, codes}
use Rattle.std.specs.List.{flat_map}
use Rattle.pk_syntax.specs.Printing.{column_text}
use Rattle.pk_syntax.proofs.printing.write_other_columns.Given as goal

-- what was there, and the columns so far
abbrev pub invariant-loop-column : goal.invariant-loop-column
invariant-loop-column l = l.out.items ≡ l.fn.out.items ++ flat_map (λ c. codes ", " ++ column_text c) (take l.column-index l.columns)

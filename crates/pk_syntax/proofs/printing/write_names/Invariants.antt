use Rattle.std.proofs.Common.{◌≡◌, ◌++◌, drop, codes}
use Rattle.std.specs.List.{join_by}
use Rattle.pk_syntax.specs.Declarations.{in_column_order}
use Rattle.pk_syntax.proofs.PrintLemmas.{names_behind}
use Rattle.pk_syntax.proofs.printing.write_names.Given as goal

-- what is written, and what is left to write, is all
abbrev pub invariant-loop-column : goal.invariant-loop-column
invariant-loop-column l =
    l.out.items ++ names_behind l.before (in_column_order (drop l.column-index l.table) l.names)
    ≡ l.fn.out.items ++ join_by (λ name. name) (codes ", ") (in_column_order l.table l.names)

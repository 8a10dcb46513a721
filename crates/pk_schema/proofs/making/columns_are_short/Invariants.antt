use Rattle.std.proofs.Common.{◌≡◌, length, nat_le}
use Rattle.std.specs.Prelude.{drop}
use Rattle.std.specs.List.{list_all}
use Rattle.pk_syntax.specs.Declarations.{names_of}
use Rattle.pk_schema.proofs.making.columns_are_short.Given as goal

-- the columns that are left decide
abbrev pub invariant-loop-column : goal.invariant-loop-column
invariant-loop-column l =
    list_all (λ name. nat_le (length name) 30) (names_of (drop l.column-index l.columns)) ≡ list_all (λ name. nat_le (length name) 30) (names_of l.columns)

use Rattle.std.proofs.Common.{◌≡◌, take}
use Rattle.pk_syntax.specs.Declarations.{names_of}
use Rattle.pk_engine.proofs.table.reasoning.names_of.Given as goal

-- the names so far are those of the columns so far
abbrev pub invariant-loop-column : goal.invariant-loop-column
invariant-loop-column l = l.names.items ≡ names_of (take l.column-index l.columns)

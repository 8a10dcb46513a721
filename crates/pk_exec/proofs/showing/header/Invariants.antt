use Rattle.std.proofs.Common.{◌≡◌, map, take}
use Rattle.pk_syntax.specs.Declarations.{names_of}
use Rattle.pk_exec.specs.Selecting.{name_of}
use Rattle.pk_exec.proofs.showing.header.Given as goal

abbrev pub invariant-loop-column : goal.invariant-loop-column
invariant-loop-column l = l.names.items ≡ map (name_of (names_of l.columns)) (take l.column-index l.shown)

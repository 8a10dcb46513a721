use Rattle.std.proofs.Common.{◌≡◌, ℕ, List, take}
use Rattle.pk_values.specs.NameSets.{has_name as knows}
use Rattle.pk_syntax.specs.Declarations.{has_name, names_of}
use Rattle.pk_schema.proofs.known.column_names.Given as goal

-- the names of the columns so far
abbrev pub invariant-loop-column : goal.invariant-loop-column
invariant-loop-column l = (name : List ℕ) → knows l.names name ≡ has_name (names_of (take l.column-index l.columns)) name

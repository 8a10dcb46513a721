use Rattle.std.proofs.Common.{◌≡◌, take}
use Rattle.pk_bind.specs.Insert.{sources}
use Rattle.pk_bind.proofs.new_rows.sources.Given as goal

-- the places for the columns so far
abbrev pub invariant-loop-column : goal.invariant-loop-column
invariant-loop-column l = l.sources.items ≡ sources (take l.column-index l.columns) l.listed

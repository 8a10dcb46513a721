use Rattle.std.proofs.Common.{◌≡◌, map, take}
use Rattle.pk_bind.specs.Insert.{given}
use Rattle.pk_bind.proofs.new_rows.made_row.Given as goal

-- the values for the columns so far
abbrev pub invariant-loop-source : goal.invariant-loop-source
invariant-loop-source l = l.values.items ≡ map (given l.row) (take l.source-index l.sources)

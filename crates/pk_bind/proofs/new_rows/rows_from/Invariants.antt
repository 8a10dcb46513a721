use Rattle.std.proofs.Common.{◌≡◌, map, take}
use Rattle.pk_bind.specs.Insert.{made_row}
use Rattle.pk_bind.proofs.new_rows.rows_from.Given as goal

-- the rows of the tuples so far
abbrev pub invariant-loop-row : goal.invariant-loop-row
invariant-loop-row l = l.made.items ≡ map (made_row l.sources) (take l.row-index l.rows)

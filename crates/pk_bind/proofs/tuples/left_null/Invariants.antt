use Rattle.std.proofs.Common.{◌≡◌, drop}
use Rattle.std.specs.List.{find}
use Rattle.pk_bind.specs.Insert.{is_left_null}
use Rattle.pk_bind.proofs.tuples.left_null.Given as goal

-- the columns that are left decide
abbrev pub invariant-loop-column : goal.invariant-loop-column
invariant-loop-column l = find (is_left_null l.listed) (drop l.column-index l.columns) ≡ find (is_left_null l.listed) l.columns

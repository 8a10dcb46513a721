use Rattle.std.proofs.Common.{◌≡◌}
use Rattle.std.specs.Prelude.{drop}
use Rattle.pk_bind.specs.Insert.{long_row}
use Rattle.pk_values.specs.Refusals.{first_by}
use Rattle.pk_bind.proofs.tuples.long_row.Given as goal

-- the rows that are left decide
abbrev pub invariant-loop-row : goal.invariant-loop-row
invariant-loop-row l = first_by long_row (drop l.row-index l.rows) ≡ first_by long_row l.rows

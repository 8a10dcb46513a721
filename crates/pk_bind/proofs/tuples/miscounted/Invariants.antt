use Rattle.std.proofs.Common.{◌≡◌}
use Rattle.std.specs.Prelude.{drop}
use Rattle.pk_bind.specs.Insert.{miscounted}
use Rattle.pk_values.specs.Refusals.{first_by}
use Rattle.pk_bind.proofs.tuples.miscounted.Given as goal

-- the rows that are left decide
abbrev pub invariant-loop-row : goal.invariant-loop-row
invariant-loop-row l = first_by (miscounted l.columns) (drop l.row-index l.rows) ≡ first_by (miscounted l.columns) l.rows

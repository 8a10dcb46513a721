use Rattle.std.proofs.Common.{◌≡◌, drop}
use Rattle.pk_values.specs.Refusals.{first_by}
use Rattle.pk_bind.specs.Insert.{null_value}
use Rattle.pk_bind.proofs.tuples.first_null.Given as goal

-- the tuples that are left decide
abbrev pub invariant-loop-row : goal.invariant-loop-row
invariant-loop-row l = first_by (null_value l.columns l.listed) (drop l.row-index l.rows) ≡ first_by (null_value l.columns l.listed) l.rows

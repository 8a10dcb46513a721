use Rattle.std.proofs.Common.{◌≡◌}
use Rattle.std.specs.Prelude.{drop}
use Rattle.pk_bind.specs.Insert.{tuple_fault}
use Rattle.pk_values.specs.Refusals.{first_by}
use Rattle.pk_bind.proofs.tuples.first_fault.Given as goal

-- the tuples that are left decide
abbrev pub invariant-loop-row : goal.invariant-loop-row
invariant-loop-row l =
    first_by (tuple_fault l.check l.listed) (drop l.row-index l.rows) ≡ first_by (tuple_fault l.check l.listed) l.rows

use Rattle.std.proofs.Common.{◌≡◌}
use Rattle.std.specs.Prelude.{drop}
use Rattle.pk_values.specs.Refusals.{first_by}
use Rattle.pk_bind.specs.Columns.{no_column}
use Rattle.pk_bind.proofs.columns.missing_column.Given as goal

-- the names that are left decide
abbrev pub invariant-loop-name : goal.invariant-loop-name
invariant-loop-name l = first_by (no_column l.columns l.table) (drop l.name-index l.names) ≡ first_by (no_column l.columns l.table) l.names

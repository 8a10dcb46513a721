use Rattle.std.specs.Prelude.{length}
use Rattle.pk_values.specs.ColumnSet.{columns}
use Rattle.pk_index.proofs.pattern_index.+put_each.Given as goal

-- the columns that are left
abbrev pub decreases-put_each : goal.decreases-put_each
decreases-put_each l = length (columns l.rest)

use Rattle.std.specs.Prelude.{length}
use Rattle.pk_values.specs.ColumnSet.{columns}
use Rattle.pk_index.proofs.pattern_index.+take_each.Given as goal

-- the columns that are left
abbrev pub decreases-take_each : goal.decreases-take_each
decreases-take_each l = length (columns l.rest)

use Rattle.std.specs.Prelude.{length}
use Rattle.pk_values.specs.ColumnSet.{columns}
use Rattle.pk_index.proofs.projection.+push_asked.Given as goal

-- the columns that are left
abbrev pub decreases-push_asked : goal.decreases-push_asked
decreases-push_asked l = length (columns l.cols)

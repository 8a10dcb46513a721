use Rattle.std.specs.Prelude.{length}
use Rattle.pk_values.specs.ColumnSet.{columns}
use Rattle.pk_index.proofs.projection.+push_row.Given as goal

-- the columns that are left
abbrev pub decreases-push_row : goal.decreases-push_row
decreases-push_row l = length (columns l.cols)

use Rattle.std.specs.Prelude.{length}
use Rattle.pk_values.specs.ColumnSet.{columns}
use Rattle.pk_index_tests.proofs.certain.+knows_others.Given as goal

-- the columns that are left
abbrev pub decreases-knows_others : goal.decreases-knows_others
decreases-knows_others l = length (columns l.cols)

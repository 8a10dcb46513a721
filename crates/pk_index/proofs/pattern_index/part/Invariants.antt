use Rattle.std.proofs.Common.{◌≡◌, ◌++◌, length, IsTrue}
use Rattle.pk_values.specs.ColumnSet.{columns}
use Rattle.pk_similar.specs.Similarity.{are_below}
use Rattle.pk_index.specs.Rows.{values_on}
use Rattle.pk_index.proofs.pattern_index.part.Given as goal

-- the values so far and those on the columns that are left are all values
abbrev pub invariant-loop-c : goal.invariant-loop-c
invariant-loop-c l = record {
  values : l.values.items ++ values_on (columns l.rest) l.row ≡ values_on (columns l.fn.cols) l.row;
  wide : IsTrue (are_below (length l.row) (columns l.rest));
}

abbrev pub decreases-loop-c : goal.decreases-loop-c
decreases-loop-c l = length (columns l.rest)

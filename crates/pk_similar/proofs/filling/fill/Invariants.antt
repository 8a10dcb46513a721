use Rattle.std.proofs.Common.{◌≡◌, ◌++◌, length, IsTrue}
use Rattle.pk_values.specs.ColumnSet.{columns}
use Rattle.pk_similar.specs.Filling.{fill_values}
use Rattle.pk_similar.specs.Similarity.{are_below}
use Rattle.pk_similar.proofs.filling.fill.Given as goal

-- the values so far and those of the columns left are all values
abbrev pub invariant-loop-c : goal.invariant-loop-c
invariant-loop-c l = record {
  values : l.values.items ++ fill_values l.kinds (columns l.rest) l.a l.b ≡ fill_values l.kinds (columns l.fn.x) l.a l.b;
  a_wide : IsTrue (are_below (length l.a) (columns l.rest));
  b_wide : IsTrue (are_below (length l.b) (columns l.rest));
  kinds_wide : IsTrue (are_below (length l.kinds) (columns l.rest));
}

abbrev pub decreases-loop-c : goal.decreases-loop-c
decreases-loop-c l = length (columns l.rest)

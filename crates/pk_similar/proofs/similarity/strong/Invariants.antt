use Rattle.std.proofs.Common.{◌≡◌, length, IsTrue}
use Rattle.pk_values.specs.ColumnSet.{columns}
use Rattle.pk_similar.specs.Similarity.{are_below, strong}
use Rattle.pk_similar.proofs.similarity.strong.Given as goal

-- the columns left decide, and lie below both widths
abbrev pub invariant-loop-c : goal.invariant-loop-c
invariant-loop-c l = record {
  decides : strong (columns l.rest) l.a l.b ≡ strong (columns l.fn.x) l.a l.b;
  a_wide : IsTrue (are_below (length l.a) (columns l.rest));
  b_wide : IsTrue (are_below (length l.b) (columns l.rest));
}

abbrev pub decreases-loop-c : goal.decreases-loop-c
decreases-loop-c l = length (columns l.rest)

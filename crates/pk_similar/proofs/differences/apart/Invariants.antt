use Rattle.std.proofs.Common.{length, IsTrue, not}
use Rattle.pk_values.specs.ColumnSet.{IsColumnSet, columns}
use Rattle.pk_values.specs.Values.{value_at}
use Rattle.pk_similar.specs.Similarity.{are_below, weak_entries}
use Rattle.pk_similar.proofs.WalkLemmas.{IsFound}
use Rattle.pk_similar.proofs.differences.apart.Given as goal

-- the columns looked for are those found and those among the columns left, which lie below both widths
abbrev pub invariant-loop-c : goal.invariant-loop-c
invariant-loop-c l = record {
  found : IsFound (λ c. not (weak_entries (value_at l.a c) (value_at l.b c))) l.fn.x l.rest l.found;
  found_set : IsColumnSet l.found;
  a_wide : IsTrue (are_below (length l.a) (columns l.rest));
  b_wide : IsTrue (are_below (length l.b) (columns l.rest));
}

abbrev pub decreases-loop-c : goal.decreases-loop-c
decreases-loop-c l = length (columns l.rest)

use Rattle.std.proofs.Common.{◌≡◌, ◌++◌, drop}
use Rattle.std.specs.Vec.Iter.{into_iter_items, into_iter_len}
use Rattle.keytab.proofs.arguments.without_first.Given as goal

-- the words so far, and then those to come
abbrev pub invariant-loop-word : goal.invariant-loop-word
invariant-loop-word l = drop 1 (into_iter_items l.fn.all) ≡ l.words.items ++ into_iter_items l.all

abbrev pub decreases-loop-word : goal.decreases-loop-word
decreases-loop-word l = into_iter_len l.all

use Rattle.std.proofs.Common.{subst, sym}
use Rattle.std.specs.List.Sorted.{IsStrictlySortedBy}
use Rattle.std.specs.Ordering.{nat_cmp}
use Rattle.std.proofs.lemmas.List.Filters.{dedup_is}
use Rattle.std.proofs.lemmas.Map.Keys.{IsStrictlyIncreasing-dedup, sorted_from_strictly_increasing}
use Rattle.pk_index_tests.proofs.spelled.ids.Goals as goal

pub returns : goal.returns
returns c =
    subst (IsStrictlySortedBy nat_cmp) (sym (dedup_is _ _ _ c.dedup.ensures.filtered))
    (sorted_from_strictly_increasing _ (IsStrictlyIncreasing-dedup _ c.in_ok-sort.ensures.sorted))

use Rattle.std.proofs.Common.{rules, sym, subst}
use Rattle.std.proofs.lemmas.List.Sorted.{IsPartitionPoint-from_clause}
use Rattle.pk_sweep.specs.Coding.{IsRank}
use Rattle.pk_sweep.proofs.RankLemmas.{below, less_first, rank_found}
use Rattle.pk_sweep.proofs.ranks.rank.Goals as goal

pub returns-in-Ok : goal.returns-in-Ok
returns-in-Ok c =
    let point =
    IsPartitionPoint-from_clause (below c.args.value.now) c.args.ordered.now c.partition_point-place.result c.partition_point-place.ensures.partitioned
    (less_first c.args.ordered.now c.args.value.now c.requires) (λ a r g called. search rules) in
    subst (IsRank c.args.ordered.now c.args.value.now) (sym c.in-Ok.ensures.1)
    (rank_found c.args.ordered.now c.args.value.now c.partition_point-place.result c.partition_point-place.ensures.bound point)

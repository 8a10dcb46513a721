use Rattle.std.proofs.Common.{sym, subst, List, ℕ}
use Rattle.pk_sweep.specs.Pairs.{InOrder}
use Rattle.pk_sweep.proofs.MetLemmas.{ordered_is, put_behind}
use Rattle.pk_sweep.proofs.ordering.in_order.Goals as goal

pub returns : goal.returns
returns c =
    subst (λ (xs : List ℕ). InOrder xs c.from_vec.result)
    (put_behind c.args.first.now c.args.second.now c.new-sets.result.items _ _ c.new-sets.ensures.items c.in_ok-add_sets.ensures c.in_ok-add_sets-2.ensures)
    (subst (InOrder _) (sym c.from_vec.ensures)
    (ordered_is _ _ _ c.in_ok-sort.ensures.permutation c.in_ok-sort.ensures.sorted c.dedup.ensures.filtered))

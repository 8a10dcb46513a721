use Rattle.pk_imply.proofs.LeastLemmas.{deduped}
use Rattle.pk_imply.proofs.least_sets.in_order.Goals as goal

pub returns : goal.returns
returns c = deduped _ _ _ c.sort.ensures.permutation c.in_ok-sort.ensures.sorted c.dedup.ensures.filtered

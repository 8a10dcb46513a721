use Rattle.pk_sweep.proofs.MetLemmas.{thinned_same}
use Rattle.pk_sweep.proofs.seen.thinned.Goals as goal

pub returns : goal.returns
returns c = thinned_same _ _ _ c.sort_unstable.ensures.permutation c.dedup.ensures.filtered

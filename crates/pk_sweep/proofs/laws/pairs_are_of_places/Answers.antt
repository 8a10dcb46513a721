use Rattle.pk_sweep.proofs.PairLemmas.{to_places, from_places}
use Rattle.pk_sweep.proofs.laws.pairs_are_of_places.Goals as goal

pub returns : goal.returns
returns c = λ differ rows x. (
  to_places differ rows x,
  λ (i, j, a, b, order, first, second, is). from_places differ rows x i j a b order first second is,
)

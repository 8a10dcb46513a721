use Rattle.pk_similar.proofs.PairLemmas.{no_pair_stands, pair_is_found}
use Rattle.pk_similar.proofs.laws.pairs_stand_at_places.Goals as goal

pub returns-clause-stands : goal.returns-clause-stands
returns-clause-stands c = no_pair_stands

pub returns-clause-found : goal.returns-clause-found
returns-clause-found c = pair_is_found

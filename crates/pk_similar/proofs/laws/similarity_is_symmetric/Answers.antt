use Rattle.pk_similar.proofs.PairLemmas.{weak_turned, strong_turned, strong_weak}
use Rattle.pk_similar.proofs.laws.similarity_is_symmetric.Goals as goal

pub returns-clause-weak : goal.returns-clause-weak
returns-clause-weak c = weak_turned

pub returns-clause-strong : goal.returns-clause-strong
returns-clause-strong c = strong_turned

pub returns-clause-stronger : goal.returns-clause-stronger
returns-clause-stronger c = strong_weak

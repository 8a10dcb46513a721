use Rattle.pk_similar.proofs.PairLemmas.{weak_meets_none_apart, strong_meets_none_not_same}
use Rattle.pk_similar.proofs.laws.similar_rows_meet_no_difference.Goals as goal

pub returns-clause-weak : goal.returns-clause-weak
returns-clause-weak c = weak_meets_none_apart

pub returns-clause-strong : goal.returns-clause-strong
returns-clause-strong c = strong_meets_none_not_same

use Rattle.pk_index.proofs.RowLemmas.{weak_of_values, strong_of_values}
use Rattle.pk_index.proofs.laws.similarity_is_of_values.Goals as goal

pub returns-clause-weak : goal.returns-clause-weak
returns-clause-weak c = weak_of_values

pub returns-clause-strong : goal.returns-clause-strong
returns-clause-strong c = strong_of_values

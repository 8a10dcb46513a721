use Rattle.pk_bind.proofs.PlacingLemmas.{rows_counted}
use Rattle.pk_bind.proofs.laws.as_many_rows_as_tuples.Goals as goal

pub returns : goal.returns
returns c = λ columns i. rows_counted columns i

use Rattle.pk_examples.proofs.AdmitLemmas.{low_admitted, high_admitted}
use Rattle.pk_examples.proofs.laws.two_rows_are_admitted.Goals as goal

pub returns : goal.returns
returns c = λ s k shape. (low_admitted s k shape, high_admitted s k shape)

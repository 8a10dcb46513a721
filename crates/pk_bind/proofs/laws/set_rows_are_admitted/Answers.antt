use Rattle.pk_bind.proofs.SetLemmas.{set_row_admitted}
use Rattle.pk_bind.proofs.laws.set_rows_are_admitted.Goals as goal

pub returns : goal.returns
returns c = λ s row e admitted fits small. set_row_admitted s row e admitted fits small

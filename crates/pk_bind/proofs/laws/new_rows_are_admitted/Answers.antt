use Rattle.pk_bind.proofs.InsertLemmas.{new_rows_admitted}
use Rattle.pk_bind.proofs.laws.new_rows_are_admitted.Goals as goal

pub returns : goal.returns
returns c = λ s i shape utf8 free. new_rows_admitted s i shape utf8 free

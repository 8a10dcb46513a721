use Rattle.pk_bind.proofs.FoundLemmas.{column_found}
use Rattle.pk_bind.proofs.laws.named_columns_are_found.Goals as goal

pub returns : goal.returns
returns c = λ columns table name free. column_found columns table name free

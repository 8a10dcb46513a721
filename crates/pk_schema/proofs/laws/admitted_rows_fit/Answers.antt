use Rattle.pk_schema.proofs.FitLemmas.{admitted_rows_fit}
use Rattle.pk_schema.proofs.laws.admitted_rows_fit.Goals as goal

pub returns : goal.returns
returns c = admitted_rows_fit

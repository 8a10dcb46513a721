use Rattle.pk_exec.proofs.PartLemmas.{covered_rows_are_there}
use Rattle.pk_exec.proofs.laws.covered_rows_are_there.Goals as goal

pub returns : goal.returns
returns c = covered_rows_are_there

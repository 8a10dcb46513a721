use Rattle.pk_rows.proofs.EdgeLemmas.{example_run}
use Rattle.pk_rows.proofs.laws.example_is_run.Goals as goal

pub returns : goal.returns
returns c = example_run

use Rattle.pk_engine.proofs.OtherLemmas.{created_there, dropped_gone}
use Rattle.pk_engine.proofs.laws.tables_are_made_and_dropped.Goals as goal

pub returns : goal.returns
returns c = record { made = created_there; dropped = dropped_gone }

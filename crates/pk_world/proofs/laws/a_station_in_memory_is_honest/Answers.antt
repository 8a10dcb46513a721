use Rattle.pk_world.proofs.Honesty.{memory_is_honest}
use Rattle.pk_world.proofs.laws.a_station_in_memory_is_honest.Goals as goal

pub returns : goal.returns
returns c = memory_is_honest

use Rattle.std.proofs.Common.{refl}
use Rattle.pk_rows.specs.MemoryRows.{map_of}
use Rattle.pk_rows.proofs.tests.has.Goals as goal

pub get-requires : goal.get-requires
get-requires c = (map_of c.args.rows.now, refl)

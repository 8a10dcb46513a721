use Rattle.std.proofs.Common.{refl}
use Rattle.pk_rows.specs.MemoryRows.{map_of}
use Rattle.pk_rows.proofs.tests.shown.Goals as goal

pub listed-requires : goal.listed-requires
listed-requires c = (map_of c.args.rows.now, refl)

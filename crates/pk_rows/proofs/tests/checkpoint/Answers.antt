use Rattle.std.proofs.Common.{refl}
use Rattle.pk_rows.specs.MemoryRows.{map_of}
use Rattle.pk_rows.proofs.tests.checkpoint.Goals as goal

pub checkpoint-requires : goal.checkpoint-requires
checkpoint-requires c = (map_of c.args.rows.now, refl)

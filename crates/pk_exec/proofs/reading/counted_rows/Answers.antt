use Rattle.pk_exec.proofs.TakeLemmas.{can_take_added}
use Rattle.pk_exec.proofs.reading.counted_rows.Goals as goal

pub count_added-requires : goal.count_added-requires
count_added-requires g c = can_take_added g.V.View c.args.view.now c.args.edited.now c.args.added.now c.args.cond.now c.requires.can

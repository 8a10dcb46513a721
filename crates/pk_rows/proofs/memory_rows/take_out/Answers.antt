use Rattle.std.proofs.Common.{◌∙◌}
use Rattle.pk_rows.proofs.CommitLemmas.{one_out}
use Rattle.pk_rows.proofs.memory_rows.take_out.Goals as goal

pub loop-place-preserved : goal.loop-place-preserved
loop-place-preserved c =
    one_out c.loop-place.place-index c.args.gone.now _ c.loop-place.rows.entries c.remove.new.self.entries c.loop-place-test.true c.remove.ensures.updates.0
    ∙ c.loop-place.invariant

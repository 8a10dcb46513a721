use Rattle.pk_rows.proofs.tests.listed.Goals as goal

pub loop-preserved : goal.loop-preserved
loop-preserved g c = (c.loop.invariant.0, c.in_ok-get.ensures.stands c.loop.invariant.0 c.loop.invariant.1)

use Rattle.std.proofs.Common.{arith}
use Rattle.pk_catalog.proofs.Bits.{all_below, empty_below}
use Rattle.pk_catalog.proofs.keys.set_of.Goals as goal

pub loop-c-init : goal.loop-c-init
loop-c-init c = record { set = c.empty-set.ensures.set; below = empty_below _ _ c.empty-set.ensures.set c.empty-set.ensures.none }

pub returns : goal.returns
returns c = all_below c.loop-c.set c.args.number c.loop-c.c (omega (arith, c.ranges.number.fits)) c.loop-c-test.false c.loop-c.invariant.below

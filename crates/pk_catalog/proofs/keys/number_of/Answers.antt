use Rattle.pk_catalog.proofs.Bits.{all_below}
use Rattle.pk_catalog.proofs.keys.number_of.Goals as goal

pub returns : goal.returns
returns c = all_below c.loop-c.number c.args.set c.loop-c.c c.requires c.loop-c-test.false c.loop-c.invariant

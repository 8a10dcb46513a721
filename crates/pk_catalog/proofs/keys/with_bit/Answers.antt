use Rattle.pk_catalog.proofs.Bits.{with_wanted}
use Rattle.pk_catalog.proofs.keys.with_bit.Goals as goal

pub returns-then-wanted : goal.returns-then-wanted
returns-then-wanted c = λ k. with_wanted c.args.number c.args.c k c.args.wanted c.requires c.if-wanted.true

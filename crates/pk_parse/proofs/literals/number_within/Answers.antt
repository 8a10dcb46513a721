use Rattle.std.proofs.Common.{refl, sym, arith}
use Rattle.pk_parse.specs.Literals.{number_of}
use Rattle.pk_parse.proofs.Numbers.{passes, is_within}
use Rattle.pk_parse.proofs.literals.number_within.Goals as goal

pub loop-digit-init : goal.loop-digit-init
unfolding number_of
loop-digit-init c = record { within = omega arith; small = omega arith; so_far = refl }

pub returns-then-next-from : goal.returns-then-next-from
returns-then-next-from c =
    sym (passes c.args.most c.args.digits.now c.loop-digit.digit-index c.loop-digit.number _ c.loop-digit-test.true c.loop-digit.invariant.so_far (omega arith))

pub returns : goal.returns
returns c =
    sym (is_within c.args.most c.args.digits.now c.loop-digit.digit-index c.loop-digit.number _ c.loop-digit-test.false c.loop-digit.invariant.so_far c.loop-digit.invariant.within)

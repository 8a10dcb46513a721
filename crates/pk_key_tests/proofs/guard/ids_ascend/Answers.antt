use Rattle.std.proofs.Common.{arith}
use Rattle.std.proofs.lemmas.Map.Keys.{sorted_from_strictly_increasing}
use Rattle.pk_key_tests.proofs.guard.ids_ascend.Goals as goal

pub returns : goal.returns
returns c = λ _. sorted_from_strictly_increasing c.args.ids.now (λ i within. c.loop-k.invariant i (omega (arith, within, c.loop-k-test.false)))

use Rattle.std.proofs.Common.{arith}
use Rattle.pk_key_tests.proofs.Ascending.{rows_ascend_from_places}
use Rattle.pk_key_tests.proofs.guard.rows_ascend.Goals as goal

pub returns : goal.returns
returns c = λ _. rows_ascend_from_places c.args.rows.now (λ i d within. c.loop-k.invariant i d (omega (arith, within, c.loop-k-test.false)))

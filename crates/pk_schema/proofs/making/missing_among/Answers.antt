use Rattle.std.proofs.Common.{sym}
use Rattle.pk_schema.proofs.MakingLemmas.{found_in_key, none_in_key}
use Rattle.pk_schema.proofs.making.missing_among.Goals as goal

pub returns-in-Some : goal.returns-in-Some
returns-in-Some c = found_in_key _ _ _ _ _ _ c.loop-key-test.true c.key-item.is c.as_slice.ensures c.in-Some.ensures c.loop-key.invariant

pub loop-key-preserved : goal.loop-key-preserved
loop-key-preserved c = none_in_key _ _ _ _ _ c.loop-key-test.true c.key-item.is c.as_slice.ensures (sym c.in_default.ensures) c.loop-key.invariant

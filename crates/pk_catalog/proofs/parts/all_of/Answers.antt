use Rattle.std.proofs.lemmas.Result.{err_from_is_err_and}
use Rattle.pk_catalog.proofs.Lists.{is_taken, is_missed}
use Rattle.pk_catalog.proofs.parts.all_of.Goals as goal

pub returns-in_err-part : goal.returns-in_err-part
returns-in_err-part g c =
    let p = err_from_is_err_and c.from_residual-in_err-part.result c.from_residual-in_err-part.ensures.1 in
    rw (p.1, p.2) (is_missed g.T.Part.at c.loop.parts.items _ c.loop.counter c.loop.rest.now _ _ c.loop-test.true c.in_err-part.ensures c.loop.invariant)

pub loop-preserved : goal.loop-preserved
loop-preserved g c =
    rw c.in_ok-push.ensures.items (is_taken g.T.Part.at c.loop.parts.items _ c.loop.counter c.loop.rest.now _ _ _ c.loop-test.true c.in_ok-part.ensures c.loop.invariant)

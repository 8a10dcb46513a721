use Rattle.std.proofs.lemmas.Result.{err_from_is_err_and}
use Rattle.pk_sheet.proofs.Lists.{is_taken, is_missed}
use Rattle.pk_sheet.proofs.reading.all_of.Goals as goal

pub returns-in_err-stored : goal.returns-in_err-stored
returns-in_err-stored c =
    let p = err_from_is_err_and c.from_residual-in_err-stored.result c.from_residual-in_err-stored.ensures.1 in
    rw (p.1, p.2) (is_missed c.loop.records.items _ c.loop.counter c.loop.rest.now _ _ c.loop-test.true c.in_err-stored.ensures c.loop.invariant)

pub loop-preserved : goal.loop-preserved
loop-preserved c =
    rw c.in_ok-push.ensures.items (is_taken c.loop.records.items _ c.loop.counter c.loop.rest.now _ _ _ c.loop-test.true c.in_ok-stored.ensures c.loop.invariant)

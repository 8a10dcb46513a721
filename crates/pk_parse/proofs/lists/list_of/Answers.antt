use Rattle.std.proofs.Common.{sym}
use Rattle.std.proofs.lemmas.Result.{err_from_is_err_and}
use Rattle.pk_parse.proofs.ListReading.{is_taken, is_missed, is_done, is_over}
use Rattle.pk_parse.proofs.lists.list_of.Goals as goal
use Rattle.pk_parse.proofs.lists.list_of.Goals.{else-loop-test, then-loop-test+in_default}

pub returns-in_err-part : goal.returns-in_err-part
returns-in_err-part g c =
    let p = err_from_is_err_and c.from_residual-in_err-part.result c.from_residual-in_err-part.ensures.1 in
    rw (p.1, p.2) (is_missed g.T.Part.at c.loop.parts.items _ c.loop.counter c.loop.rest.now _ _ _ c.loop-test.true (sym c.in-Some.ensures) c.in_err-part.ensures c.loop.invariant)

pub loop-preserved : goal.loop-preserved
loop-preserved g c =
    rw c.in_ok-push-2.ensures.items (is_taken g.T.Part.at c.loop.parts.items _ c.loop.counter c.loop.rest.now _ _ _ _ c.loop-test.true (sym c.in-Some.ensures) c.in_ok-part.ensures c.loop.invariant)

pub returns : goal.returns
returns g c =
    rw c.from_vec.ensures (elim c.loop-test.branch [
      | else-loop-test w ↦ is_over g.T.Part.at c.loop.parts.items _ c.loop.counter c.loop.rest.now _ w.loop-test.false c.loop.invariant
      | then-loop-test+in_default w ↦ is_done g.T.Part.at c.loop.parts.items _ c.loop.counter c.loop.rest.now _ w.loop-test.true (sym w.in_default.ensures) c.loop.invariant
    ])

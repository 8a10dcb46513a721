use Rattle.std.proofs.Common.{Some, ap}
use Rattle.pk_parse.proofs.MarkReading.{is_marked, is_unmarked, is_spent}
use Rattle.pk_parse.proofs.create.marks_of.Goals as goal
use Rattle.pk_parse.proofs.create.marks_of.Goals.{else-loop-test, then-loop-test+in_default}

pub loop-preserved : goal.loop-preserved
loop-preserved c =
    rw c.in_ok-push.ensures.items (is_marked c.loop.marks.items _ c.loop.counter c.loop.rest.now _ _ _ c.loop-test.true c.in-Some.ensures c.loop.invariant)

pub returns : goal.returns
returns c =
    rw c.from_vec.ensures (ap Some (elim c.loop-test.branch [
      | else-loop-test w ↦ is_spent c.loop.marks.items _ c.loop.counter c.loop.rest.now _ w.loop-test.false c.loop.invariant
      | then-loop-test+in_default w ↦ is_unmarked c.loop.marks.items _ c.loop.counter c.loop.rest.now _ w.loop-test.true w.in_default.ensures c.loop.invariant
    ]))

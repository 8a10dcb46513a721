use Rattle.std.proofs.Common.{◌+◌, ◌≤◌, length, arith}
use Rattle.pk_gate.specs.Format.{IsLength}
use Rattle.pk_gate.proofs.Heads.{spelled_well}
use Rattle.pk_gate.proofs.steps.Step.of.Goals as goal
use Rattle.pk_gate.proofs.steps.Step.of.Goals.{then-len-eq0-via-then-len-eq0, then-len-eq0-via-else-len-eq0+then-len-gt-MOST_PAYLOAD, then-len-eq0-via-else-len-eq0+else-len-gt-MOST_PAYLOAD+then-left-len}

pub returns-then-len-eq0-clause-step : goal.returns-then-len-eq0-clause-step
returns-then-len-eq0-clause-step c = λ bytes long is ps ends.
    let five : 5 ≤ length c.args.head.now = omega (arith, c.requires.enough, c.if-left-lt5.false) in
    let fine : IsLength c.number-len.result × (5 + c.number-len.result ≤ length bytes) = spelled_well c.args.head.now bytes c.number-len.result ps is five c.if-head-ne1.false c.number-len.ensures.fits c.number-len.ensures.spelled ends in
    elim c.then-len-eq0.branch [
      | then-len-eq0-via-then-len-eq0 w ↦ absurd (omega (arith, fine.0.0, w.if-len-eq0.true))
      | then-len-eq0-via-else-len-eq0+then-len-gt-MOST_PAYLOAD w ↦ absurd (omega (arith, fine.0.1, w.if-len-gt-MOST_PAYLOAD.true))
      | then-len-eq0-via-else-len-eq0+else-len-gt-MOST_PAYLOAD+then-left-len w ↦ absurd (omega (arith, fine.1, long, w.if-left-len.true))
    ]

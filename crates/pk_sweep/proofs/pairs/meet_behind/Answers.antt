use Rattle.std.proofs.Common.{ap, arith, ◌+◌, ◌-◌, bit_and, bit_or}
use Rattle.pk_sweep.specs.Coding.{apart_at, not_same_at, code_at}
use Rattle.pk_sweep.proofs.MetLemmas.{beside_to, beside_done}
use Rattle.pk_sweep.proofs.pairs.meet_behind.Goals as goal

pub loop-j-preserved : goal.loop-j-preserved
loop-j-preserved c =
    let null = bit_or (code_at c.args.nulls.now c.args.i) (code_at c.args.nulls.now c.loop-j.j) in
    record {
      apart =
          beside_to (apart_at c.args.columns.now c.args.nulls.now c.args.i) (c.args.i + 1) c.loop-j.j _ _ _ _ (omega (arith, c.loop-j.auto.j))
          (ap (λ d. bit_and d (4294967295 - null)) c.differing-differing.ensures) c.loop-j.invariant.apart c.in_ok-meet.ensures;
      not_same =
          beside_to (not_same_at c.args.columns.now c.args.nulls.now c.args.i) (c.args.i + 1) c.loop-j.j _ _ _ _ (omega (arith, c.loop-j.auto.j))
          (ap (λ d. bit_or d null) c.differing-differing.ensures) c.loop-j.invariant.not_same c.in_ok-meet-2.ensures;
    }

pub returns-clause-apart : goal.returns-clause-apart
returns-clause-apart c =
    beside_done (apart_at c.args.columns.now c.args.nulls.now c.args.i) (c.args.i + 1) c.loop-j.j _ _ _
    (omega (arith, c.loop-j-test.false, c.loop-j.auto.j-end, c.requires.within)) c.loop-j.invariant.apart

pub returns-clause-not_same : goal.returns-clause-not_same
returns-clause-not_same c =
    beside_done (not_same_at c.args.columns.now c.args.nulls.now c.args.i) (c.args.i + 1) c.loop-j.j _ _ _
    (omega (arith, c.loop-j-test.false, c.loop-j.auto.j-end, c.requires.within)) c.loop-j.invariant.not_same

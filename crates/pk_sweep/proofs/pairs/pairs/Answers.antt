use Rattle.std.proofs.Common.{arith}
use Rattle.pk_sweep.specs.Coding.{apart_at, not_same_at}
use Rattle.pk_sweep.proofs.MetLemmas.{pairs_to, pairs_none, pairs_done}
use Rattle.pk_sweep.proofs.pairs.pairs.Goals as goal

pub loop-i-init : goal.loop-i-init
loop-i-init c = record {
  apart = pairs_none _ _ c.args.from _ c.in_ok-apart.ensures;
  not_same = pairs_none _ _ c.args.from _ c.in_ok-not_same.ensures;
}

pub loop-i-preserved : goal.loop-i-preserved
loop-i-preserved c = record {
  apart = pairs_to (apart_at c.args.columns.now c.args.nulls.now) _ c.args.from c.loop-i.i _ _ (omega (arith, c.loop-i.auto.i)) c.loop-i.invariant.apart c.in_ok-meet_behind.ensures.apart;
  not_same =
      pairs_to (not_same_at c.args.columns.now c.args.nulls.now) _ c.args.from c.loop-i.i _ _ (omega (arith, c.loop-i.auto.i)) c.loop-i.invariant.not_same
      c.in_ok-meet_behind.ensures.not_same;
}

pub returns : goal.returns
returns c = record {
  apart =
      pairs_done (apart_at c.args.columns.now c.args.nulls.now) _ c.args.from c.loop-i.i c.args.to _ _ (omega (arith, c.loop-i-test.false, c.loop-i.auto.i-end, c.requires.order))
      c.into_kept.ensures c.loop-i.invariant.apart;
  not_same =
      pairs_done (not_same_at c.args.columns.now c.args.nulls.now) _ c.args.from c.loop-i.i c.args.to _ _ (omega (arith, c.loop-i-test.false, c.loop-i.auto.i-end, c.requires.order))
      c.into_kept-2.ensures c.loop-i.invariant.not_same;
}

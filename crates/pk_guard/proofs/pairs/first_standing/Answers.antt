use Rattle.std.proofs.Common.{◌∙◌, sym}
use Rattle.pk_guard.specs.Breaks.{breaks}
use Rattle.pk_guard.proofs.WalkLemmas.{StandsBetween, others_ascend, behind_ascend, before_wide, behind_wide, others_wide, found_before, found_here, found_behind, found_last}
use Rattle.pk_guard.proofs.pairs.first_standing.Goals as goal

pub first_kept-requires-clause-rows_wide : goal.first_kept-requires-clause-rows_wide
first_kept-requires-clause-rows_wide c =
    let w : StandsBetween c.in-Some.next.now c.in-Some.others.now c.loop-next.left.now c.loop-next.kept.now c.split_at_id.result.0.now c.split_at_id.result.1.now = record {
      first = c.in-Some.ensures.cases.0;
      before_is = c.split_at_id.ensures.below;
      behind_is = c.split_at_id.ensures.above;
      left_ascend = c.loop-next.invariant.left_ascend;
      kept_ascend = c.loop-next.invariant.kept_ascend;
    } in
    before_wide c.args.key.now _ _ _ _ _ _ w c.loop-next.invariant.kept_wide

pub returns-in-Some-first_kept : goal.returns-in-Some-first_kept
returns-in-Some-first_kept c =
    let w : StandsBetween c.in-Some.next.now c.in-Some.others.now c.loop-next.left.now c.loop-next.kept.now c.split_at_id.result.0.now c.split_at_id.result.1.now = record {
      first = c.in-Some.ensures.cases.0;
      before_is = c.split_at_id.ensures.below;
      behind_is = c.split_at_id.ensures.above;
      left_ascend = c.loop-next.invariant.left_ascend;
      kept_ascend = c.loop-next.invariant.kept_ascend;
    } in
    found_before (breaks c.args.key.now c.args.low.now) c.args.gone.now _ _ _ _ _ _ w c.in-Some-first_kept.high.now c.in-Some-first_kept.ensures ∙ c.loop-next.invariant.decides

pub returns-then-breaks : goal.returns-then-breaks
returns-then-breaks c =
    let w : StandsBetween c.in-Some.next.now c.in-Some.others.now c.loop-next.left.now c.loop-next.kept.now c.split_at_id.result.0.now c.split_at_id.result.1.now = record {
      first = c.in-Some.ensures.cases.0;
      before_is = c.split_at_id.ensures.below;
      behind_is = c.split_at_id.ensures.above;
      left_ascend = c.loop-next.invariant.left_ascend;
      kept_ascend = c.loop-next.invariant.kept_ascend;
    } in
    found_here (breaks c.args.key.now c.args.low.now) c.args.gone.now _ _ _ _ _ _ w c.in_default-first_kept.ensures (sym c.breaks.ensures ∙ c.if-breaks.true) ∙ c.loop-next.invariant.decides

pub loop-next-preserved : goal.loop-next-preserved
loop-next-preserved c =
    let w : StandsBetween c.in-Some.next.now c.in-Some.others.now c.loop-next.left.now c.loop-next.kept.now c.split_at_id.result.0.now c.split_at_id.result.1.now = record {
      first = c.in-Some.ensures.cases.0;
      before_is = c.split_at_id.ensures.below;
      behind_is = c.split_at_id.ensures.above;
      left_ascend = c.loop-next.invariant.left_ascend;
      kept_ascend = c.loop-next.invariant.kept_ascend;
    } in
    record {
      decides = found_behind (breaks c.args.key.now c.args.low.now) c.args.gone.now _ _ _ _ _ _ w c.in_default-first_kept.ensures (sym c.breaks.ensures ∙ c.if-breaks.false) ∙ c.loop-next.invariant.decides;
      kept_wide = behind_wide c.args.key.now _ _ _ _ _ _ w c.loop-next.invariant.kept_wide;
      left_wide = others_wide c.args.key.now _ _ _ _ _ _ w c.loop-next.invariant.left_wide;
      kept_ascend = behind_ascend _ _ _ _ _ _ w;
      left_ascend = others_ascend _ _ _ _ _ _ w;
    }

pub returns : goal.returns
returns c =
    c.first_kept-2.ensures
    ∙ found_last (breaks c.args.key.now c.args.low.now) c.args.gone.now c.loop-next.left.now c.loop-next.kept.now c.in_default.ensures.cases ∙ c.loop-next.invariant.decides

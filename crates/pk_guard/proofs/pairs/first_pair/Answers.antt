use Rattle.std.proofs.Common.{◌∙◌}
use Rattle.pk_guard.proofs.WalkLemmas.{StandsBetween, others_ascend, behind_ascend, before_wide, behind_wide, others_wide, behind_unbroken, pair_before, pair_here, pair_behind, pair_last}
use Rattle.pk_guard.proofs.pairs.first_pair.Goals as goal

pub first_between-requires-clause-rows_wide : goal.first_between-requires-clause-rows_wide
first_between-requires-clause-rows_wide c =
    let w : StandsBetween c.in-Some.next.now c.in-Some.others.now c.loop-next.left.now c.loop-next.kept.now c.split_at_id.result.0.now c.split_at_id.result.1.now = record {
      first = c.in-Some.ensures.cases.0;
      before_is = c.split_at_id.ensures.below;
      behind_is = c.split_at_id.ensures.above;
      left_ascend = c.loop-next.invariant.left_ascend;
      kept_ascend = c.loop-next.invariant.kept_ascend;
    } in
    before_wide c.args.key.now _ _ _ _ _ _ w c.loop-next.invariant.kept_wide

pub returns-in-Some-first_between : goal.returns-in-Some-first_between
returns-in-Some-first_between c =
    let w : StandsBetween c.in-Some.next.now c.in-Some.others.now c.loop-next.left.now c.loop-next.kept.now c.split_at_id.result.0.now c.split_at_id.result.1.now = record {
      first = c.in-Some.ensures.cases.0;
      before_is = c.split_at_id.ensures.below;
      behind_is = c.split_at_id.ensures.above;
      left_ascend = c.loop-next.invariant.left_ascend;
      kept_ascend = c.loop-next.invariant.kept_ascend;
    } in
    pair_before c.args.key.now c.args.gone.now _ _ _ _ _ _ w c.loop-next.invariant.unbroken _ c.in-Some-first_between.ensures ∙ c.loop-next.invariant.decides

pub first_standing-requires-clause-rows_wide : goal.first_standing-requires-clause-rows_wide
first_standing-requires-clause-rows_wide c =
    let w : StandsBetween c.in-Some.next.now c.in-Some.others.now c.loop-next.left.now c.loop-next.kept.now c.split_at_id.result.0.now c.split_at_id.result.1.now = record {
      first = c.in-Some.ensures.cases.0;
      before_is = c.split_at_id.ensures.below;
      behind_is = c.split_at_id.ensures.above;
      left_ascend = c.loop-next.invariant.left_ascend;
      kept_ascend = c.loop-next.invariant.kept_ascend;
    } in
    behind_wide c.args.key.now _ _ _ _ _ _ w c.loop-next.invariant.kept_wide

pub first_standing-requires-clause-rows_ascend : goal.first_standing-requires-clause-rows_ascend
first_standing-requires-clause-rows_ascend c =
    let w : StandsBetween c.in-Some.next.now c.in-Some.others.now c.loop-next.left.now c.loop-next.kept.now c.split_at_id.result.0.now c.split_at_id.result.1.now = record {
      first = c.in-Some.ensures.cases.0;
      before_is = c.split_at_id.ensures.below;
      behind_is = c.split_at_id.ensures.above;
      left_ascend = c.loop-next.invariant.left_ascend;
      kept_ascend = c.loop-next.invariant.kept_ascend;
    } in
    behind_ascend _ _ _ _ _ _ w

pub first_standing-requires-clause-put_ascend : goal.first_standing-requires-clause-put_ascend
first_standing-requires-clause-put_ascend c =
    let w : StandsBetween c.in-Some.next.now c.in-Some.others.now c.loop-next.left.now c.loop-next.kept.now c.split_at_id.result.0.now c.split_at_id.result.1.now = record {
      first = c.in-Some.ensures.cases.0;
      before_is = c.split_at_id.ensures.below;
      behind_is = c.split_at_id.ensures.above;
      left_ascend = c.loop-next.invariant.left_ascend;
      kept_ascend = c.loop-next.invariant.kept_ascend;
    } in
    others_ascend _ _ _ _ _ _ w

pub returns-in-Some-first_standing : goal.returns-in-Some-first_standing
returns-in-Some-first_standing c =
    let w : StandsBetween c.in-Some.next.now c.in-Some.others.now c.loop-next.left.now c.loop-next.kept.now c.split_at_id.result.0.now c.split_at_id.result.1.now = record {
      first = c.in-Some.ensures.cases.0;
      before_is = c.split_at_id.ensures.below;
      behind_is = c.split_at_id.ensures.above;
      left_ascend = c.loop-next.invariant.left_ascend;
      kept_ascend = c.loop-next.invariant.kept_ascend;
    } in
    pair_here c.args.key.now c.args.gone.now _ _ _ _ _ _ w c.loop-next.invariant.unbroken c.in_default-first_between.ensures c.in-Some-first_standing.high.now
    c.in-Some-first_standing.ensures ∙ c.loop-next.invariant.decides

pub loop-next-preserved : goal.loop-next-preserved
loop-next-preserved c =
    let w : StandsBetween c.in-Some.next.now c.in-Some.others.now c.loop-next.left.now c.loop-next.kept.now c.split_at_id.result.0.now c.split_at_id.result.1.now = record {
      first = c.in-Some.ensures.cases.0;
      before_is = c.split_at_id.ensures.below;
      behind_is = c.split_at_id.ensures.above;
      left_ascend = c.loop-next.invariant.left_ascend;
      kept_ascend = c.loop-next.invariant.kept_ascend;
    } in
    record {
      decides =
          pair_behind c.args.key.now c.args.gone.now _ _ _ _ _ _ w c.loop-next.invariant.unbroken c.in_default-first_between.ensures c.in_default-first_standing.ensures
          ∙ c.loop-next.invariant.decides;
      kept_wide = behind_wide c.args.key.now _ _ _ _ _ _ w c.loop-next.invariant.kept_wide;
      left_wide = others_wide c.args.key.now _ _ _ _ _ _ w c.loop-next.invariant.left_wide;
      kept_ascend = behind_ascend _ _ _ _ _ _ w;
      left_ascend = others_ascend _ _ _ _ _ _ w;
      unbroken = behind_unbroken c.args.key.now _ _ _ _ _ _ w c.loop-next.invariant.unbroken;
    }

pub returns : goal.returns
returns c =
    pair_last c.args.key.now c.args.gone.now c.loop-next.left.now c.loop-next.kept.now c.in_default.ensures.cases c.loop-next.invariant.unbroken ∙ c.loop-next.invariant.decides

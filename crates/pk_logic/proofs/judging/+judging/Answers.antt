use Rattle.std.proofs.Common.{◌∙◌, ap}
use Rattle.pk_logic.specs.Truth.{lesser, greater}
use Rattle.pk_logic.specs.Conditions.{truth, is_judgeable}
use Rattle.pk_logic.proofs.Members.{tests_go_on, least_goes_on, greatest_goes_on}
use Rattle.pk_logic.proofs.judging.+judging.Goals as goal

pub judge_all-loop-member-preserved : goal.judge_all-loop-member-preserved
judge_all-loop-member-preserved t c =
    let row = c.args.row.now in
    let members = c.args.members.now in
    let at = c.loop-member.member-index in
    let is = c.and-all.ensures ∙ ap (lesser c.loop-member.all) c.judge.ensures in (
      tests_go_on (is_judgeable row) members at c.member-item.result c.loop-member-test.true c.member-item.is c.loop-member.invariant.0,
      least_goes_on (truth row) members at c.member-item.result c.loop-member.all c.and-all.result c.loop-member-test.true c.member-item.is is c.loop-member.invariant.1,
    )

pub judge_any-loop-member-preserved : goal.judge_any-loop-member-preserved
judge_any-loop-member-preserved t c =
    let row = c.args.row.now in
    let members = c.args.members.now in
    let at = c.loop-member.member-index in
    let is = c.or-any.ensures ∙ ap (greater c.loop-member.any) c.judge.ensures in (
      tests_go_on (is_judgeable row) members at c.member-item.result c.loop-member-test.true c.member-item.is c.loop-member.invariant.0,
      greatest_goes_on (truth row) members at c.member-item.result c.loop-member.any c.or-any.result c.loop-member-test.true c.member-item.is is c.loop-member.invariant.1,
    )

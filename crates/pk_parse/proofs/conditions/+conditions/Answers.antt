use Rattle.std.proofs.Common.{sym}
use Rattle.std.proofs.lemmas.Result.{err_from_is_err_and}
use Rattle.pk_parse.specs.Conditions.{word_of, member_at, unit_at}
use Rattle.pk_parse.proofs.MemberReading.{is_taken, is_missed, is_done, is_over, joined_missed, joined_alone, joined_broken, joined_several, unit_inside}
use Rattle.pk_parse.proofs.conditions.+conditions.Goals as goal
use Rattle.pk_parse.proofs.conditions.+conditions.Goals.{members_of-else-loop-test, members_of-then-loop-test+in_default}

pub members_of-returns-in_err-member : goal.members_of-returns-in_err-member
members_of-returns-in_err-member t c =
    let p = err_from_is_err_and c.from_residual-in_err-member.result c.from_residual-in_err-member.ensures.1 in
    rw (p.1, p.2) (is_missed (word_of c.args.joint) (member_at c.args.joint (unit_at c.args.levels)) c.loop.members.items _ c.loop.counter c.loop.rest.now _ _ _ c.loop-test.true (sym c.in-Some.ensures) c.in_err-member.ensures c.loop.invariant)

pub members_of-loop-preserved : goal.members_of-loop-preserved
members_of-loop-preserved t c =
    rw c.in_ok-push-2.ensures.items (is_taken (word_of c.args.joint) (member_at c.args.joint (unit_at c.args.levels)) c.loop.members.items _ c.loop.counter c.loop.rest.now _ _ _ _ c.loop-test.true (sym c.in-Some.ensures) c.in_ok-member.ensures c.loop.invariant)

pub members_of-returns : goal.members_of-returns
members_of-returns t c =
    rw c.from_vec.ensures (elim c.loop-test.branch [
      | members_of-else-loop-test w ↦ is_over (word_of c.args.joint) (member_at c.args.joint (unit_at c.args.levels)) c.loop.members.items _ c.loop.counter c.loop.rest.now _ w.loop-test.false c.loop.invariant
      | members_of-then-loop-test+in_default w ↦ is_done (word_of c.args.joint) (member_at c.args.joint (unit_at c.args.levels)) c.loop.members.items _ c.loop.counter c.loop.rest.now _ w.loop-test.true (sym w.in_default.ensures) c.loop.invariant
    ])

pub joined_of-returns-in_err-first : goal.joined_of-returns-in_err-first
joined_of-returns-in_err-first t c =
    let p = err_from_is_err_and c.from_residual.result c.from_residual.ensures.1 in
    rw (p.1, p.2) (joined_missed c.args.joint (member_at c.args.joint (unit_at c.args.levels)) c.args.tokens.now _ c.in_err-first.ensures)

pub unit_of-returns-in-Some-after_symbol : goal.unit_of-returns-in-Some-after_symbol
unit_of-returns-in-Some-after_symbol t c =
    rw (unit_inside c.args.levels c.args.tokens.now _ c.if-levels-eq0.false (sym c.in_default.ensures) (sym c.in-Some-after_symbol.ensures)) c.inside_of.ensures

pub joined_of-returns-in_default : goal.joined_of-returns-in_default
joined_of-returns-in_default t c =
    joined_alone c.args.joint (member_at c.args.joint (unit_at c.args.levels)) c.args.tokens.now _ _ c.in_ok-first.ensures (sym c.in_default.ensures)

pub joined_of-returns-in_err-members : goal.joined_of-returns-in_err-members
joined_of-returns-in_err-members t c =
    let p = err_from_is_err_and c.from_residual-in_err-members.result c.from_residual-in_err-members.ensures.1 in
    rw (p.1, p.2) (joined_broken c.args.joint (member_at c.args.joint (unit_at c.args.levels)) c.args.tokens.now _ _ _ c.in_ok-first.ensures c.in_err-members.ensures)

pub joined_of-returns : goal.joined_of-returns
joined_of-returns t c =
    rw c.group_of.ensures (joined_several c.args.joint (member_at c.args.joint (unit_at c.args.levels)) c.args.tokens.now _ _ _ _ _ c.in_ok-first.ensures (sym c.in-Some.ensures) c.in_ok-members.ensures)

use Rattle.std.proofs.Common.{◌≡◌, ℕ, ◌-◌, ◌<◌, ◌∙◌, sym, subst, length, get_or, take, arith, length-take, get_or-take}
use Rattle.pk_world.specs.MemoryFiles.{held}
use Rattle.pk_world.specs.History.{Moment, first_moment, after, inside}
use Rattle.pk_world.specs.Crash.{IsKept, Tracks}
use Rattle.pk_world.proofs.Recorded.{after_more, begun_at, crashed_file}
use Rattle.pk_world.proofs.crash.left_of.Goals as goal

pub loop-call-preserved : goal.loop-call-preserved
loop-call-preserved c =
    let first = first_moment (held c.args.first.now) in
    let near : c.loop-call.call-index < c.args.number - 1 = omega (arith, simp length-take at c.loop-call-test.true) in
    let within : c.loop-call.call-index < length c.args.calls.now = omega (arith, c.requires.last, near) in
    let is : c.call-item.result ≡ get_or c.args.calls.now c.loop-call.call-index c.call-item.result =
    c.call-item.is ∙ get_or-take (c.args.number - 1) c.args.calls.now c.loop-call.call-index c.call-item.result near in
    subst (λ (m : Moment). Tracks c.args.left c.args.which m c.replay.new.seen.items c.replay.new.kept.items)
    (sym (after_more first c.args.calls.now c.loop-call.call-index c.call-item.result within is))
    (c.in_ok-replay.ensures (after first (take c.loop-call.call-index c.args.calls.now)) c.loop-call.invariant)

pub returns : goal.returns
returns c =
    let first = first_moment (held c.args.first.now) in
    let within : c.args.number - 1 < length c.args.calls.now = omega (arith, c.requires.first, c.requires.last) in
    let long : length (take (c.args.number - 1) c.args.calls.now) ≡ c.args.number - 1 = simp length-take (omega (arith, within)) in
    let all : c.loop-call.call-index ≡ c.args.number - 1 = omega (arith, long, c.loop-call-test.false, c.loop-call.auto.call-index-end) in
    let so_far : Tracks c.args.left c.args.which (after first (take (c.args.number - 1) c.args.calls.now)) c.loop-call.seen.items c.loop-call.kept.items =
    subst (λ (k : ℕ). Tracks c.args.left c.args.which (after first (take k c.args.calls.now)) c.loop-call.seen.items c.loop-call.kept.items) all c.loop-call.invariant in
    let m = after first (take (c.args.number - 1) c.args.calls.now) in
    let last = c.in_ok-begin.ensures m so_far.kept_so in
    subst (λ (n : Moment). IsKept c.args.left c.args.which n c.begin.new.kept.items)
    (sym (begun_at m c.args.calls.now (c.args.number - 1) c.index-calls-number.result within c.index-calls-number.is)) last
    ∙ sym (crashed_file c.args.left (inside (held c.args.first.now) c.args.calls.now (c.args.number - 1)) c.args.which)

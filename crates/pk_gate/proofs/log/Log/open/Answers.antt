use Rattle.std.proofs.Common.{◌≡◌, ◌∙◌, sym, ap, subst, IsTrue}
use Rattle.pk_world.specs.Files.{Files}
use Rattle.pk_world.specs.Station.{Reads}
use Rattle.pk_world.proofs.Chains.{reads_then, leaves_now}
use Rattle.pk_gate.specs.Format.{LogHolds}
use Rattle.pk_gate.proofs.log.Log.open.Goals as goal

pub read_frames-requires-clause-synced : goal.read_frames-requires-clause-synced
read_frames-requires-clause-synced g c = λ honest tells f may.
    let W = g.W.Station in
    let z = c.size.ensures in
    let sized : Reads W c.sync.new.self c.size.new.self = record {
      uses = record { tells = z.tells; honest = z.honest; time = z.time; told = z.told; disk = z.count; sink = z.sink };
      content = z.content;
      leaves = z.during;
    } in
    let seen = reads_then W c.sync.new.self c.size.new.self c.look.new.station (g.met.W.Station.earlier c.look.new.station) (g.met.W.Station.counts_now c.size.new.self) sized c.look.ensures.reads in
    let honest_then : W.honest c.sync.new.self = seen.uses.honest.1 honest in
    let tells_then : IsTrue (W.tells c.sync.new.self) = subst IsTrue seen.uses.tells tells in
    let before : W.may_leave c.sync.new.self f = leaves_now W c.sync.new.self c.look.new.station (W.may_leave c.sync.new.self) (g.met.W.Station.counts_now c.look.new.station) seen.uses seen.leaves honest_then tells_then f may in
    c.in_ok-sync.ensures.durable (c.sync.ensures.honest.1 honest_then) (subst IsTrue c.sync.ensures.tells tells_then) f before
    ∙ ap (λ (x : Files). x.log) (sym (seen.content ∙ c.sync.ensures.content))

pub returns-clause-bad : goal.returns-clause-bad
returns-clause-bad g c = λ bad tells ps held.
    let W = g.W.Station in
    let now : IsTrue (W.tells c.look.new.station) =
    subst IsTrue (sym (c.look.ensures.reads.uses.tells ∙ c.size.ensures.tells ∙ c.sync.ensures.tells)) tells in
    let same : W.content c.look.new.station ≡ W.content c.args.station.now = c.look.ensures.reads.content ∙ c.size.ensures.content ∙ c.sync.ensures.content in
    c.read_frames.ensures.bad bad now ps (subst (λ (x : Files). LogHolds x.log ps) (sym same) held)

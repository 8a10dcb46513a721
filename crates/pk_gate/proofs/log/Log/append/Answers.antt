use Rattle.std.proofs.Common.{ℕ, ◌+◌, List, [], ◌∷◌, ◌++◌, length, ◌∙◌, ap}
use Rattle.pk_world.specs.declared.station.Which.TheVariants.{Log as LogFile}
use Rattle.pk_gate.specs.declared.extent.Extent.{Extent}
use Rattle.pk_gate.proofs.Torn.{staging}
use Rattle.pk_gate.proofs.Chains.{written_as, tearing_as, frame_leaves, append_leaves, append_stands}
use Rattle.pk_gate.proofs.log.Log.append.Goals as goal

pub returns-clause-stands : goal.returns-clause-stands
returns-clause-stands g c = λ ps stands.
    let W = g.W.Station in
    let old = c.args.station.now in
    let mid = c.write_through.new.station in
    let end = c.write_through-2.new.station in
    let log = c.args.self.now in
    let p = c.args.payload.now in
    let bytes = c.as_slice-2.ensures.value ∙ c.in_ok-staged.ensures ∙ ap staging c.as_slice.ensures in
    let added : List ℕ → Extent = λ x. record { at = log.gate + 5; len = length x } in
    append_stands W old mid end log _ ps p stands c.requires.sized c.write_through.ensures.uses c.write_through-2.ensures.uses
    (written_as W LogFile (log.gate + 1) c.as_slice-2.result.now (staging p) old mid bytes c.in_ok-write_through.ensures.written)
    c.in_ok-write_through-2.ensures.written
    (ap (λ (x : List ℕ). log.gate + 5 + length x) c.as_slice-3.ensures)
    (c.push.ensures ∙ ap (λ (es : List Extent). es ++ added c.as_slice-3.result.now ∷ []) c.reserve.ensures.items
    ∙ ap (λ (x : List ℕ). log.extents.items ++ added x ∷ []) c.as_slice-3.ensures)

pub returns-in_err-write_through-clause-any_moment : goal.returns-in_err-write_through-clause-any_moment
returns-in_err-write_through-clause-any_moment g c = λ ps stands.
    let W = g.W.Station in
    let old = c.args.station.now in
    let mid = c.write_through.new.station in
    let log = c.args.self.now in
    let p = c.args.payload.now in
    let bytes = c.as_slice-2.ensures.value ∙ c.in_ok-staged.ensures ∙ ap staging c.as_slice.ensures in
    frame_leaves W old mid log ps p stands
    (tearing_as W LogFile (log.gate + 1) c.as_slice-2.result.now (staging p) old mid bytes c.write_through.ensures.any_moment)

pub returns-in_err-write_through-2-clause-any_moment : goal.returns-in_err-write_through-2-clause-any_moment
returns-in_err-write_through-2-clause-any_moment g c = λ ps stands.
    let W = g.W.Station in
    let old = c.args.station.now in
    let mid = c.write_through.new.station in
    let end = c.write_through-2.new.station in
    let log = c.args.self.now in
    let p = c.args.payload.now in
    let bytes = c.as_slice-2.ensures.value ∙ c.in_ok-staged.ensures ∙ ap staging c.as_slice.ensures in
    append_leaves W old mid end log ps p (g.met.W.Station.counts_now mid) stands c.requires.sized c.write_through.ensures.uses c.write_through-2.ensures.uses
    (tearing_as W LogFile (log.gate + 1) c.as_slice-2.result.now (staging p) old mid bytes c.write_through.ensures.any_moment)
    (written_as W LogFile (log.gate + 1) c.as_slice-2.result.now (staging p) old mid bytes c.in_ok-write_through.ensures.written)
    c.write_through-2.ensures.any_moment

pub returns-clause-any_moment : goal.returns-clause-any_moment
returns-clause-any_moment g c = λ ps stands.
    let W = g.W.Station in
    let old = c.args.station.now in
    let mid = c.write_through.new.station in
    let end = c.write_through-2.new.station in
    let log = c.args.self.now in
    let p = c.args.payload.now in
    let bytes = c.as_slice-2.ensures.value ∙ c.in_ok-staged.ensures ∙ ap staging c.as_slice.ensures in
    append_leaves W old mid end log ps p (g.met.W.Station.counts_now mid) stands c.requires.sized c.write_through.ensures.uses c.write_through-2.ensures.uses
    (tearing_as W LogFile (log.gate + 1) c.as_slice-2.result.now (staging p) old mid bytes c.write_through.ensures.any_moment)
    (written_as W LogFile (log.gate + 1) c.as_slice-2.result.now (staging p) old mid bytes c.in_ok-write_through.ensures.written)
    c.write_through-2.ensures.any_moment

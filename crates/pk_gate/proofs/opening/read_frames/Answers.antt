use Rattle.std.proofs.Common.{◌-◌, ◌+◌, ◌≤◌, ◌∙◌, List, drop, refl, sym, subst, arith, IsTrue}
use Rattle.std.specs.List.{All}
use Rattle.std.proofs.lemmas.List.Elements.{All-push}
use Rattle.pk_world.proofs.Chains.{reads_then}
use Rattle.pk_gate.specs.declared.extent.Extent.{Extent}
use Rattle.pk_gate.specs.declared.steps.Step.{Step}
use Rattle.pk_gate.specs.Stands.{IsInside}
use Rattle.pk_world.specs.Files.{Files}
use Rattle.pk_gate.specs.declared.steps.Step.TheVariants.{Closed, Frame, Bad}
use Rattle.pk_gate.specs.Steps.{IsStep, IsWithin, Shows}
use Rattle.pk_gate.proofs.Heads.{Found, found_none, found_more, found_all, found_bad, shows_none}
use Rattle.pk_gate.proofs.Chains.{reads_none, open_stands}
use Rattle.pk_gate.proofs.opening.read_frames.Goals as goal

pub frames-init : goal.frames-init
frames-init g c =
    let log = (g.W.Station.content c.args.station.now).log in
    record {
      reads = reads_none g.W.Station c.args.station.now (g.met.W.Station.only_now c.args.station.now);
      within = c.requires.least;
      shows = λ tells. shows_none log _ refl c.new.ensures.items;
      found = λ tells. subst (λ (es : List Extent). Found log 8 es) (sym c.new-extents.ensures.items) (found_none log (c.requires.begins tells));
      inside = subst (λ (es : List Extent). All IsInside es) (sym c.new-extents.ensures.items) (λ k d within. absurd (omega arith));
      unfailed = refl;
    }

pub returns-in_err-push-in-Frame-clause-reads : goal.returns-in_err-push-in-Frame-clause-reads
returns-in_err-push-in-Frame-clause-reads g c =
    reads_then g.W.Station c.args.station.now c.frames.station c.step_at.new.station (g.met.W.Station.earlier c.step_at.new.station) (g.met.W.Station.counts_now c.frames.station)
    c.frames.invariant.reads c.step_at.ensures.reads

pub frames-preserved : goal.frames-preserved
frames-preserved g c =
    let so = c.frames.invariant in
    let log = (g.W.Station.content c.args.station.now).log in
    let gate = c.frames.gate in
    let len = c.in-Frame.len in
    let within : IsWithin (c.args.size - gate) (Frame len) = subst (λ (s : Step). IsWithin (c.args.size - gate) s) c.in-Frame.is c.in_ok-len.ensures.within in
    let told : IsTrue (g.W.Station.tells c.args.station.now) → IsTrue (g.W.Station.tells c.frames.station) = λ tells. subst IsTrue (sym so.reads.uses.tells) tells in
    let step : IsTrue (g.W.Station.tells c.args.station.now) → IsStep (drop gate log) (Frame len) = λ tells.
    subst (λ (s : Step). IsStep (drop gate log) s) c.in-Frame.is
    (subst (λ (f : Files). IsStep (drop gate f.log) c.in_ok-len.field-0) so.reads.content (c.in_ok-len.ensures.step (told tells))) in
    let ends : gate + (5 + len) ≤ c.args.size = omega (arith, within.1, so.within) in
    let e : Extent = record { at = gate + 5; len = len } in
    record {
      reads = reads_then g.W.Station c.args.station.now c.frames.station c.step_at.new.station (g.met.W.Station.earlier c.step_at.new.station) (g.met.W.Station.counts_now c.frames.station)
          so.reads c.step_at.ensures.reads;
      within = ends;
      shows = λ tells. subst (λ (f : Files). Shows f.log c.step_at.new.part) so.reads.content (c.in_ok-len.ensures.shows (told tells));
      found = λ tells.
          subst (λ (es : List Extent). Found log (gate + (5 + len)) es) (sym c.in_ok-push-in-Frame.ensures.items)
          (found_more log gate len (gate + (5 + len)) c.frames.extents.items (so.found tells) (step tells) refl);
      inside =
          subst (λ (es : List Extent). All IsInside es) (sym c.in_ok-push-in-Frame.ensures.items)
          (All-push IsInside c.frames.extents.items e so.inside (omega (arith, ends, c.requires.most)));
      unfailed = c.in_ok-len.ensures.unfailed (λ no. cc) ∙ so.unfailed;
    }

pub returns-in-Closed-clause-reads : goal.returns-in-Closed-clause-reads
returns-in-Closed-clause-reads g c =
    reads_then g.W.Station c.args.station.now c.frames.station c.step_at.new.station (g.met.W.Station.earlier c.step_at.new.station) (g.met.W.Station.counts_now c.frames.station)
    c.frames.invariant.reads c.step_at.ensures.reads

pub returns-in-Closed-clause-stands : goal.returns-in-Closed-clause-stands
returns-in-Closed-clause-stands g c =
    let so = c.frames.invariant in
    let log = (g.W.Station.content c.args.station.now).log in
    let gate = c.frames.gate in
    let reads = reads_then g.W.Station c.args.station.now c.frames.station c.step_at.new.station (g.met.W.Station.earlier c.step_at.new.station) (g.met.W.Station.counts_now c.frames.station)
    so.reads c.step_at.ensures.reads in
    let step : IsTrue (g.W.Station.tells c.args.station.now) → IsStep (drop gate log) Closed = λ tells.
    subst (λ (s : Step). IsStep (drop gate log) s) c.in-Closed.is
    (subst (λ (f : Files). IsStep (drop gate f.log) c.in_ok-len.field-0) so.reads.content (c.in_ok-len.ensures.step (subst IsTrue (sym so.reads.uses.tells) tells))) in
    open_stands g.W.Station c.args.station.now c.step_at.new.station _ (λ tells. (so.found tells).done) (g.met.W.Station.counts_now c.step_at.new.station) reads c.requires.synced
    (λ tells. found_all log gate c.frames.extents.items (so.found tells) (step tells)) (λ tells. (so.found tells).place) (λ tells. (so.found tells).extents)
    (omega (arith, so.within, c.requires.most)) so.inside

pub returns-in-Bad-clause-bad : goal.returns-in-Bad-clause-bad
returns-in-Bad-clause-bad g c = λ bad tells ps held.
    let so = c.frames.invariant in
    let log = (g.W.Station.content c.args.station.now).log in
    let step : IsStep (drop c.frames.gate log) Bad =
    subst (λ (s : Step). IsStep (drop c.frames.gate log) s) c.in-Bad.is
    (subst (λ (f : Files). IsStep (drop c.frames.gate f.log) c.in_ok-len.field-0) so.reads.content (c.in_ok-len.ensures.step (subst IsTrue (sym so.reads.uses.tells) tells))) in
    found_bad log c.frames.gate c.frames.extents.items (so.found tells) step ps held

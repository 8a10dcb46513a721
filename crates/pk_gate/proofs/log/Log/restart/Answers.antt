use Rattle.std.proofs.Common.{refl, sym, ◌∙◌}
use Rattle.pk_gate.proofs.Chains.{restart_leaves, restart_stands, untouched_leaves, none_stands}
use Rattle.pk_gate.proofs.log.Log.restart.Goals as goal

pub returns-clause-stands : goal.returns-clause-stands
returns-clause-stands g c = λ ps stands.
    restart_stands g.W.Station c.args.station.now c.write_through.new.station c.args.self.now _ ps stands c.write_through.ensures.uses c.in_ok-write_through.ensures.written refl c.clear.ensures.items

pub returns-in_err-write_through-clause-any_moment : goal.returns-in_err-write_through-clause-any_moment
returns-in_err-write_through-clause-any_moment g c = λ ps stands.
    restart_leaves g.W.Station c.args.station.now c.write_through.new.station c.args.self.now ps stands
    (λ none. c.if-count-eq0.false (c.count.ensures ∙ none)) c.write_through.ensures.any_moment

pub returns-clause-any_moment : goal.returns-clause-any_moment
returns-clause-any_moment g c = λ ps stands.
    restart_leaves g.W.Station c.args.station.now c.write_through.new.station c.args.self.now ps stands
    (λ none. c.if-count-eq0.false (c.count.ensures ∙ none)) c.write_through.ensures.any_moment

pub returns-then-count-eq0-clause-stands : goal.returns-then-count-eq0-clause-stands
returns-then-count-eq0-clause-stands g c = λ ps stands.
    none_stands g.W.Station c.args.station.now c.args.self.now ps stands (sym c.count.ensures ∙ c.if-count-eq0.true)

pub returns-then-count-eq0-clause-any_moment : goal.returns-then-count-eq0-clause-any_moment
returns-then-count-eq0-clause-any_moment g c = λ ps stands.
    untouched_leaves g.W.Station c.args.station.now c.args.self.now ps (λ f s honest tells left. g.met.W.Station.only_now c.args.station.now f s honest tells left) stands

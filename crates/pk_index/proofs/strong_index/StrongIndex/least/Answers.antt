use Rattle.std.proofs.Common.{sym, subst, ◌∙◌}
use Rattle.pk_index.specs.Rows.{IsLeast}
use Rattle.pk_index.specs.Filing.{has}
use Rattle.pk_index.proofs.StrongLemmas.{least_shown, none_shown}
use Rattle.pk_index.proofs.strong_index.StrongIndex.least.Goals as goal

pub returns-then-not-push_mark-clause-least : goal.returns-then-not-push_mark-clause-least
returns-then-not-push_mark-clause-least g c =
    none_shown c.args.self.now c.args.probe.now c.args.outside.now (sym c.push_mark.ensures.known ∙ c.if-not-push_mark.true)

pub returns-clause-least : goal.returns-clause-least
returns-clause-least g c =
    let index = c.args.self.now in
    least_shown index c.args.probe.now c.args.outside.now c.least.result c.push_mark.ensures.storable (sym c.push_mark.ensures.known ∙ c.if-not-push_mark.false)
    (subst (λ bytes. IsLeast (has index.filed bytes) c.args.outside.now c.least.result) (c.as_slice.ensures ∙ c.push_mark.ensures.items) c.least.ensures.least)

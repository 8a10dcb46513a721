use Rattle.std.proofs.Common.{◌≡◌, Ok, Err, sym, subst, ap, ◌∙◌}
use Rattle.pk_syntax.specs.declared.declaration.KeyText.{KeyText}
use Rattle.pk_report.specs.declared.reply.Reply.{Reply}
use Rattle.pk_imply.specs.declared.asking.AskErr.{AskErr}
use Rattle.pk_imply.specs.declared.asking.AskErr.TheVariants as errors
use Rattle.pk_imply.specs.Asking.{Asks}
use Rattle.pk_rule.specs.Plain.{plain_of}
use Rattle.pk_engine.specs.Base.{Table}
use Rattle.pk_engine.specs.Refusing.{Step, decided}
use Rattle.pk_engine.specs.State.{State}
use Rattle.pk_engine.specs.Reasoning.{implies_refusals, implied_reply, implied_told, IsToldAs}
use Rattle.pk_engine.proofs.AnswerLemmas.{decided_done, decided_refused}
use Rattle.pk_engine.proofs.StandsLemmas.{if_ok}
use Rattle.pk_engine.proofs.table.Stored.implied.Goals as goal

pub returns-in-Ok : goal.returns-in-Ok
returns-in-Ok c =
    let t = c.args.self.now in
    let k = c.args.key.now in
    let asks = subst (λ (u : Table). Asks u.name u.shape k (Ok c.in-Ok.key)) c.self.view_is c.in-Ok.ensures.asks in
    if_ok c.implied_reply.result c.implied_reply.ensures (λ r is st.
    is ∙ ap (λ (u : Table). implied_reply (plain_of u.shape) c.in-Ok.key) c.self.view_is
    ∙ ap (implied_reply (plain_of t.shape)) asks.1
    ∙ ap (λ (s : Step). s.reply) (sym (decided_done st (implies_refusals t k) (implied_told st t k) asks.0)))

-- a question that asks about no key is refused
refused_as : (st : State) (t : Table) (k : KeyText) (e : AskErr) (r : Reply) → Asks t.name t.shape k (Err e) → IsToldAs e r → r ≡ (decided st (implies_refusals t k) (implied_told st t k)).reply
refused_as st t k (errors.Refused x) r asks told = told ∙ ap (λ (s : Step). s.reply) (sym (decided_refused st (implies_refusals t k) (implied_told st t k) x asks))
refused_as st t k errors.Memory r asks told = absurd told

pub returns-in-Err : goal.returns-in-Err
returns-in-Err c =
    let t = c.args.self.now in
    let k = c.args.key.now in
    let asks = subst (λ (u : Table). Asks u.name u.shape k (Err c.in-Err.error)) c.self.view_is c.in-Err.ensures.asks in
    if_ok c.unasked.result c.unasked.ensures (λ r told st. refused_as st t k c.in-Err.error r asks told)

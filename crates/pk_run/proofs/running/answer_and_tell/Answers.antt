use Rattle.std.proofs.Common.{List, ℕ, ◌∙◌, ap, subst}
use Rattle.pk_report.specs.declared.reply.Reply.{Reply}
use Rattle.pk_report.specs.Text.{text}
use Rattle.pk_run.specs.Told.{TellsFront}
use Rattle.pk_run.proofs.Runs.{front_of_text}
use Rattle.pk_run.proofs.running.answer_and_tell.Goals as goal

-- the sink took a front of the text of the reply
pub returns-in_err-tell-clause-front : goal.returns-in_err-tell-clause-front
returns-in_err-tell-clause-front g c = λ st stands tells.
    let taken = c.tell.ensures.err tells in
    subst (λ (t : List ℕ). TellsFront (g.W.Station.told c.args.station.now) (g.W.Station.told c.tell.new.self) t)
    (c.deref.ensures.value ∙ c.in_ok-text.ensures ∙ ap (λ (r : Reply). text r) (c.in_ok-reply.ensures.reply st stands))
    (front_of_text _ _ _ taken.0 taken.2)

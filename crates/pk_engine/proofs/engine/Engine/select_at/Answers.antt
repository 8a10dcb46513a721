use Rattle.std.proofs.Common.{Ok, sym, subst, ap, ◌∙◌}
use Rattle.pk_bind.specs.Select.{select_refusals}
use Rattle.pk_exec.specs.Answers.{Answers, IsCause}
use Rattle.pk_engine.specs.Base.{Table}
use Rattle.pk_engine.specs.Refusing.{Step}
use Rattle.pk_engine.specs.Select.{found, told_as, selected_rows}
use Rattle.pk_engine.proofs.AnswerLemmas.{decided_done, decided_refused}
use Rattle.pk_engine.proofs.CommitLemmas.{same_at}
use Rattle.pk_engine.proofs.OrderLemmas.{blank}
use Rattle.pk_engine.proofs.StandsLemmas.{stands_table, place_within}
use Rattle.pk_engine.proofs.engine.Engine.select_at.Goals as goal

pub select-requires-clause-texts : goal.select-requires-clause-texts
select-requires-clause-texts c = c.requires.given.texts

pub select-requires-clause-valid : goal.select-requires-clause-valid
select-requires-clause-valid c =
    stands_table c.args.self.now c.requires.stands.0 c.args.place c.index.result.now c.requires.stands.1
    (place_within c.args.select.now.table c.args.self.now.tables.items c.args.place blank c.requires.found) c.index.ensures

pub returns-in-Ok : goal.returns-in-Ok
returns-in-Ok c = λ st t stands is.
    let s = c.args.select.now in
    let same = same_at c.args.self.now.tables.items c.args.place t c.index.result.now c.index.ensures is in
    let answer = subst (λ (x : Table). Answers (select_refusals x.shape s) (found x s) (Ok c.in-Ok.selected)) same c.in-Ok.ensures in
    c.told_as.ensures ∙ ap (told_as s.what) answer.1
    ∙ ap (λ (x : Step). x.reply) (sym (decided_done st (select_refusals t.shape s) (selected_rows st t s) answer.0))

pub returns-in-Err-Refused : goal.returns-in-Err-Refused
returns-in-Err-Refused c = λ st t stands is.
    let s = c.args.select.now in
    let same = same_at c.args.self.now.tables.items c.args.place t c.index.result.now c.index.ensures is in
    let cause = subst (λ (x : Table). IsCause (select_refusals x.shape s) c.in-Err-Refused.field-0) same c.in-Err-Refused.ensures in
    ap (λ (x : Step). x.reply) (sym (decided_refused st (select_refusals t.shape s) (selected_rows st t s) c.in-Err-Refused.refusal (subst (IsCause (select_refusals t.shape s)) c.in-Err-Refused.field-0-is cause)))

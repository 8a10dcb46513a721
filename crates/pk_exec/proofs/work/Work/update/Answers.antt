use Rattle.std.proofs.Common.{◌∙◌, ap, subst}
use Rattle.pk_bind.specs.Bound.{IsBound}
use Rattle.pk_bind.specs.Update.{update_refusals, edit_of}
use Rattle.pk_exec.specs.declared.change.Change.{Change}
use Rattle.pk_exec.specs.Fates.{edit_change}
use Rattle.pk_exec.specs.Settling.{IsChanged}
use Rattle.pk_exec.proofs.StatementLemmas.{update_answered, update_seen, on_ok}
use Rattle.pk_exec.proofs.work.Work.update.Goals as goal
use Rattle.pk_values.proofs.RefusalLemmas.{first_before}

pub returns-in-Refused-clause-answer : goal.returns-in-Refused-clause-answer
returns-in-Refused-clause-answer g c tells =
    let s = c.args.schema.now in
    let u = c.args.update.now in
    first_before (update_refusals s u) _ c.in-Refused.refusal
    (subst (IsBound (update_refusals s u) (edit_of s.columns u)) c.in-Refused.is c.in_ok-refusal.ensures.bound)

pub returns-in-Ready-clause-answer : goal.returns-in-Ready-clause-answer
returns-in-Ready-clause-answer g c tells =
    let s = c.args.schema.now in
    let u = c.args.update.now in
    let w = c.args.self.now in
    let rows = g.V.View.rows c.args.view.now in
    let bound = subst (IsBound (update_refusals s u) (edit_of s.columns u)) c.in-Ready.is c.in_ok-refusal.ensures.bound in
    let told = subst (λ (x : Change). IsChanged x c.args.table rows w c.change.new.self c.change.result)
    (c.of_edit.ensures ∙ ap edit_change bound.1) (c.change.ensures.told tells) in
    update_answered (edit_of s.columns u) c.args.table rows w c.change.new.self c.change.result (update_refusals s u)
    (g.met.V.View.ascend c.args.view.now) bound.0 told

pub returns-in-Ready-clause-entries : goal.returns-in-Ready-clause-entries
returns-in-Ready-clause-entries g c =
    let s = c.args.schema.now in
    let u = c.args.update.now in
    let w = c.args.self.now in
    let rows = g.V.View.rows c.args.view.now in
    let bound = subst (IsBound (update_refusals s u) (edit_of s.columns u)) c.in-Ready.is c.in_ok-refusal.ensures.bound in
    on_ok c.change.result _
    (λ n is tells.
    update_seen (edit_of s.columns u) c.args.table rows w c.change.new.self n (g.met.V.View.ascend c.args.view.now)
    (subst (IsChanged (edit_change (edit_of s.columns u)) c.args.table rows w c.change.new.self) is
    (subst (λ (x : Change). IsChanged x c.args.table rows w c.change.new.self c.change.result)
    (c.of_edit.ensures ∙ ap edit_change bound.1) (c.change.ensures.told tells))))

use Rattle.std.proofs.Common.{◌∙◌, ap, subst}
use Rattle.pk_bind.specs.Bound.{IsBound}
use Rattle.pk_bind.specs.Delete.{delete_refusals}
use Rattle.pk_bind.specs.Conditions.{cond_asked}
use Rattle.pk_exec.specs.declared.change.Change.{Change}
use Rattle.pk_exec.specs.Fates.{removal}
use Rattle.pk_exec.specs.Settling.{IsChanged}
use Rattle.pk_exec.proofs.StatementLemmas.{delete_answered, delete_seen, on_ok}
use Rattle.pk_exec.proofs.work.Work.delete.Goals as goal
use Rattle.pk_values.proofs.RefusalLemmas.{first_before}

pub returns-in-Refused-clause-answer : goal.returns-in-Refused-clause-answer
returns-in-Refused-clause-answer g c tells =
    let s = c.args.schema.now in
    let u = c.args.delete.now in
    first_before (delete_refusals s u) _ c.in-Refused.refusal
    (subst (IsBound (delete_refusals s u) (cond_asked s.columns u.cond)) c.in-Refused.is c.in_ok-refusal.ensures.bound)

pub returns-in-Ready-clause-answer : goal.returns-in-Ready-clause-answer
returns-in-Ready-clause-answer g c tells =
    let s = c.args.schema.now in
    let u = c.args.delete.now in
    let w = c.args.self.now in
    let rows = g.V.View.rows c.args.view.now in
    let bound = subst (IsBound (delete_refusals s u) (cond_asked s.columns u.cond)) c.in-Ready.is c.in_ok-refusal.ensures.bound in
    let told = subst (λ (x : Change). IsChanged x c.args.table rows w c.change.new.self c.change.result)
    (c.removal.ensures ∙ ap removal bound.1) (c.change.ensures.told tells) in
    delete_answered (cond_asked s.columns u.cond) c.args.table rows w c.change.new.self c.change.result (delete_refusals s u)
    (g.met.V.View.ascend c.args.view.now) bound.0 told

pub returns-in-Ready-clause-entries : goal.returns-in-Ready-clause-entries
returns-in-Ready-clause-entries g c =
    let s = c.args.schema.now in
    let u = c.args.delete.now in
    let w = c.args.self.now in
    let rows = g.V.View.rows c.args.view.now in
    let bound = subst (IsBound (delete_refusals s u) (cond_asked s.columns u.cond)) c.in-Ready.is c.in_ok-refusal.ensures.bound in
    on_ok c.change.result _
    (λ n is tells.
    delete_seen (cond_asked s.columns u.cond) c.args.table rows w c.change.new.self n (g.met.V.View.ascend c.args.view.now)
    (subst (IsChanged (removal (cond_asked s.columns u.cond)) c.args.table rows w c.change.new.self) is
    (subst (λ (x : Change). IsChanged x c.args.table rows w c.change.new.self c.change.result)
    (c.removal.ensures ∙ ap removal bound.1) (c.change.ensures.told tells))))

use Rattle.std.proofs.Common.{◌≡◌, length, ◌∙◌, ap, sym, subst, refl}
use Rattle.pk_values.specs.Refusals.{first_some}
use Rattle.pk_bind.specs.Conditions.{cond_asked}
use Rattle.pk_exec.specs.Answers.{IsCause}
use Rattle.pk_exec.specs.Edits.{taken}
use Rattle.pk_exec.specs.Refusals.{work_delete_refusals}
use Rattle.pk_exec.specs.Rows.{AscendFrom}
use Rattle.pk_exec.specs.Works.{size_elsewhere}
use Rattle.pk_exec.specs.Seen.{Covers, entries_of}
use Rattle.pk_exec.specs.ListViews.{listed}
use Rattle.pk_engine.specs.declared.table.editing.TheConstants.{TABLE}
use Rattle.pk_engine.specs.Base.{Table}
use Rattle.pk_engine.specs.Edits.{entries_in, delete_entries}
use Rattle.pk_engine.proofs.WorkLemmas.{valid_ascends, work_settled, delete_refusals_are, delete_count_is, delete_entries_are}
use Rattle.pk_engine.proofs.table.Stored.delete.Goals as goal

pub new-view-requires : goal.new-view-requires
new-view-requires c =
    rw c.as_slice.ensures.value (subst (λ (t : Table). AscendFrom 1 t.rows) (sym c.self.view_is) (valid_ascends c.args.self.now c.requires.valid))

pub delete-requires-clause-fits : goal.delete-requires-clause-fits
delete-requires-clause-fits c = c.new-work.ensures.fits c.self.inside.schema TABLE

pub delete-requires-clause-covers : goal.delete-requires-clause-covers
delete-requires-clause-covers c = c.new-work.ensures.covers TABLE _

pub done-requires-clause-covers : goal.done-requires-clause-covers
done-requires-clause-covers c =
    let rows : listed c.new-view.result ≡ c.args.self.now.rows = c.new-view.ensures ∙ c.as_slice.ensures.value ∙ ap (λ (t : Table). t.rows) c.self.view_is in
    subst (Covers c.delete.new.self TABLE) rows c.in-Ok.ensures.covers

pub returns-in-Ok : goal.returns-in-Ok
returns-in-Ok c =
    let t = c.args.self.now in
    let u = c.args.delete.now in
    let s = c.self.inside.schema in
    let w = c.new-work.result in
    let shape : s ≡ t.shape = ap (λ (x : Table). x.shape) c.self.view_is in
    let rows : listed c.new-view.result ≡ t.rows = c.new-view.ensures ∙ c.as_slice.ensures.value ∙ ap (λ (x : Table). x.rows) c.self.view_is in
    let answer = c.in-Ok.ensures.answer refl in
    work_settled (work_delete_refusals t.shape 0 t.rows (entries_in t) u) (length (taken (cond_asked t.shape.columns u.cond) (entries_in t))) (delete_entries t u) t c.in-Ok.n _ c.done.result
    (ap first_some (sym (delete_refusals_are t s (listed c.new-view.result) w u shape rows (c.new-work.ensures.entries, c.new-work.ensures.elsewhere))) ∙ answer.0)
    (answer.1 ∙ delete_count_is t s (listed c.new-view.result) w u shape rows (c.new-work.ensures.entries, c.new-work.ensures.elsewhere))
    (delete_entries_are t s (listed c.new-view.result) w c.delete.new.self u shape rows (c.new-work.ensures.entries, c.new-work.ensures.elsewhere) (c.in-Ok.ensures.entries refl))
    c.done.ensures

pub returns-in-Err-Refused : goal.returns-in-Err-Refused
returns-in-Err-Refused c =
    let t = c.args.self.now in
    let u = c.args.delete.now in
    let s = c.self.inside.schema in
    let shape : s ≡ t.shape = ap (λ (x : Table). x.shape) c.self.view_is in
    let rows : listed c.new-view.result ≡ t.rows = c.new-view.ensures ∙ c.as_slice.ensures.value ∙ ap (λ (x : Table). x.rows) c.self.view_is in
    rw c.in-Err-Refused.field-0-is (ap first_some (sym (delete_refusals_are t s (listed c.new-view.result) c.new-work.result u shape rows (c.new-work.ensures.entries, c.new-work.ensures.elsewhere))) ∙ subst (IsCause (work_delete_refusals s (size_elsewhere c.new-work.result TABLE) (listed c.new-view.result) (entries_of c.new-work.result TABLE (listed c.new-view.result)) u)) c.in-Err-Refused.field-0-is (c.in-Err-Refused.ensures.answer refl))

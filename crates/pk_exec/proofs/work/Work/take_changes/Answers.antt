use Rattle.std.proofs.Common.{◌∙◌, ap}
use Rattle.pk_exec.specs.Told.{gone_edits}
use Rattle.pk_exec.specs.Works.{TableEdits}
use Rattle.pk_exec.proofs.TellLemmas.{told_changes, told_admitted}
use Rattle.pk_exec.proofs.work.Work.take_changes.Goals as goal

pub returns-clause-changes : goal.returns-clause-changes
returns-clause-changes c rows up covers =
    let taken = c.edited.view_is ∙ c.take_edits.ensures.taken in
    told_changes c.args.self.now c.args.table rows c.args.next c.edited.inside.edited.items c.edited.inside.added.items c.in_ok-gone_ids.field-0 c.in_ok-put_rows.field-0
    (ap (λ (t : TableEdits). t.edited) taken) (ap (λ (t : TableEdits). t.added) taken) (c.in_ok-gone_ids.ensures ∙ ap gone_edits c.as_slice.ensures.value)
    c.in_ok-put_rows.ensures up covers

pub returns-clause-admitted : goal.returns-clause-admitted
returns-clause-admitted c s fits =
    let taken = c.edited.view_is ∙ c.take_edits.ensures.taken in
    told_admitted c.args.self.now c.args.table s c.args.next c.edited.inside.edited.items c.edited.inside.added.items c.in_ok-put_rows.field-0
    (ap (λ (t : TableEdits). t.edited) taken) (ap (λ (t : TableEdits). t.added) taken) c.in_ok-put_rows.ensures fits

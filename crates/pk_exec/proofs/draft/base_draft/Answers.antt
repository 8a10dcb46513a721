use Rattle.std.proofs.Common.{◌∙◌, sym}
use Rattle.std.proofs.lemmas.Result.{err_from_is_err_and}
use Rattle.pk_exec.specs.Views.{IsLeft}
use Rattle.pk_exec.proofs.Walks.{left_trans, drafting_starts, drafting_goes_on, drafting_told, drafting_part, met_there, fewer_left, drafting_refused}
use Rattle.pk_exec.proofs.AdmitLemmas.{can_change_row}
use Rattle.pk_exec.proofs.CauseLemmas.{carried}
use Rattle.pk_exec.specs.Bases.{base_rows}
use Rattle.pk_exec.specs.Drafts.{row_refusal}
use Rattle.pk_exec.proofs.DraftLemmas.{base_refused}
use Rattle.pk_exec.proofs.draft.base_draft.Goals as goal

pub loop-draft-init : goal.loop-draft-init
loop-draft-init g c =
    drafting_starts g.V.View c.args.change.now c.args.edited.now c.args.view.now c.empty-draft.result (g.met.V.View.ascend c.args.view.now) c.empty-draft.ensures

pub returns-in_err-id-clause-view : goal.returns-in_err-id-clause-view
returns-in_err-id-clause-view g c =
    let n = c.next_after.ensures in
    let read : IsLeft g.V.View c.loop-draft.view c.next_after.new.self =
    record { rows = n.rows; tells = n.tells; fits = n.fits; held = n.held; faults = n.faults; strays = n.strays } in
    left_trans g.V.View c.args.view.now c.loop-draft.view c.next_after.new.self c.loop-draft.invariant.view read

pub returns-in_err-id-clause-cause : goal.returns-in_err-id-clause-cause
returns-in_err-id-clause-cause g c =
    let p = err_from_is_err_and c.from_residual.result c.from_residual.ensures.1 in
    carried g.V.View c.args.view.now c.loop-draft.view c.next_after.new.self c.next_after.result _ c.from_residual.result p.0 c.loop-draft.invariant.view
    c.in_err-id.was c.next_after.ensures.disk c.next_after.ensures.changed p.1 p.2

pub base_row-requires : goal.base_row-requires
base_row-requires g c =
    met_there (g.V.View.rows c.loop-draft.view) (g.V.View.rows c.next_after.new.self) c.loop-draft.at c.in-Some.id
    (g.met.V.View.ascend c.loop-draft.view) c.next_after.ensures.rows (sym c.in_ok-id.ensures.next ∙ c.in-Some.is)

pub loop-draft-smaller : goal.loop-draft-smaller
loop-draft-smaller g c =
    fewer_left (g.V.View.rows c.loop-draft.view) (g.V.View.rows c.base_row.new.view) c.loop-draft.at c.in-Some.id
    (g.met.V.View.ascend c.loop-draft.view) (c.base_row.ensures.view.rows ∙ c.next_after.ensures.rows) (sym c.in_ok-id.ensures.next ∙ c.in-Some.is)

pub change_row-requires : goal.change_row-requires
change_row-requires g c =
    let can = c.requires.can in
    can_change_row can.0 c.args.change.now c.in_ok-base.base.row
    (c.in_ok-base.ensures.admitted can.0 (c.next_after.ensures.fits can.0 (c.loop-draft.invariant.view.fits can.0 can.1)) (c.loop-draft.invariant.left_fits can.0 can.2))
    can.3

pub loop-draft-preserved : goal.loop-draft-preserved
loop-draft-preserved g c =
    let n = c.next_after.ensures in
    let read : IsLeft g.V.View c.loop-draft.view c.next_after.new.self =
    record { rows = n.rows; tells = n.tells; fits = n.fits; held = n.held; faults = n.faults; strays = n.strays } in
    rw c.edits_behind-left.ensures
    (drafting_goes_on g.V.View c.args.change.now c.args.edited.now c.loop-draft.left.now c.args.view.now c.loop-draft.view c.next_after.new.self c.base_row.new.view
    c.loop-draft.at c.in-Some.id c.loop-draft.draft c.change_row.new.self c.in_ok-base.base
    (g.met.V.View.ascend c.args.view.now) c.loop-draft.invariant (sym c.in_ok-id.ensures.next ∙ c.in-Some.is) read c.base_row.ensures.view
    c.in_ok-base.ensures.id c.in_ok-base.ensures.row c.in_ok-base.ensures.admitted c.in_ok-change_row.ensures)

pub returns-in_err-change_row-clause-told : goal.returns-in_err-change_row-clause-told
returns-in_err-change_row-clause-told g c tells =
    let n = c.next_after.ensures in
    let read : IsLeft g.V.View c.loop-draft.view c.next_after.new.self =
    record { rows = n.rows; tells = n.tells; fits = n.fits; held = n.held; faults = n.faults; strays = n.strays } in
    let p = err_from_is_err_and c.from_residual-in_err-change_row.result c.from_residual-in_err-change_row.ensures.1 in
    base_refused c.args.change.now (base_rows c.args.edited.now (g.V.View.rows c.args.view.now)) (row_refusal c.args.change.now c.in_ok-base.base.row)
    c.from_residual-in_err-change_row.result p.0 _ p.1 p.2 c.in_err-change_row.ensures
    (λ q some.
    drafting_refused g.V.View c.args.change.now c.args.edited.now c.loop-draft.left.now c.args.view.now c.loop-draft.view c.next_after.new.self
    c.loop-draft.at c.in-Some.id c.loop-draft.draft c.in_ok-base.base q (g.met.V.View.ascend c.args.view.now) c.loop-draft.invariant
    (sym c.in_ok-id.ensures.next ∙ c.in-Some.is) read c.in_ok-base.ensures.row some tells)

pub returns-clause-told : goal.returns-clause-told
returns-clause-told g c =
    drafting_told g.V.View c.args.change.now c.args.edited.now c.loop-draft.left.now c.args.view.now c.loop-draft.view c.loop-draft.at c.loop-draft.draft c.loop-draft.invariant
    (sym c.in_ok-id.ensures.next ∙ c.in_default.is)

pub returns-clause-part : goal.returns-clause-part
returns-clause-part g c =
    drafting_part g.V.View c.args.change.now c.args.edited.now c.loop-draft.left.now c.args.view.now c.loop-draft.view c.loop-draft.at c.loop-draft.draft c.loop-draft.invariant
    (sym c.in_ok-id.ensures.next ∙ c.in_default.is)

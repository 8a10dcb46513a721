use Rattle.std.proofs.Common.{◌∙◌, sym, []}
use Rattle.pk_exec.specs.Views.{IsLeft}
use Rattle.pk_exec.proofs.Walks.{met_there, fewer_left}
use Rattle.pk_exec.proofs.TakeLemmas.{taking_starts, taking_goes_on, taking_told, can_take_row}
use Rattle.pk_exec.proofs.reading.take_base.Goals as goal

pub loop-id-init : goal.loop-id-init
loop-id-init g c =
    taking_starts g.V.View c.args.cond.now c.args.edited.now c.args.rows.now.items c.args.view.now (g.met.V.View.ascend c.args.view.now)

pub base_row-requires : goal.base_row-requires
base_row-requires g c =
    met_there (g.V.View.rows c.loop-id.view) (g.V.View.rows c.next_after.new.self) c.loop-id.at c.in-Some.id
    (g.met.V.View.ascend c.loop-id.view) c.next_after.ensures.rows (sym c.in_ok-id.ensures.next ∙ c.in-Some.is)

pub take_row-requires : goal.take_row-requires
take_row-requires g c =
    can_take_row g.V.View c.args.view.now c.args.edited.now [] c.args.cond.now c.in_ok-base.base.row c.requires.can
    (λ s fits all. c.in_ok-base.ensures.admitted s (c.next_after.ensures.fits s (c.loop-id.invariant.view.fits s fits)) (c.loop-id.invariant.left_fits s all))

pub loop-id-smaller : goal.loop-id-smaller
loop-id-smaller g c =
    fewer_left (g.V.View.rows c.loop-id.view) (g.V.View.rows c.base_row.new.view) c.loop-id.at c.in-Some.id
    (g.met.V.View.ascend c.loop-id.view) (c.base_row.ensures.view.rows ∙ c.next_after.ensures.rows) (sym c.in_ok-id.ensures.next ∙ c.in-Some.is)

pub loop-id-preserved : goal.loop-id-preserved
loop-id-preserved g c =
    let n = c.next_after.ensures in
    let read : IsLeft g.V.View c.loop-id.view c.next_after.new.self =
    record { rows = n.rows; tells = n.tells; fits = n.fits; held = n.held; faults = n.faults; strays = n.strays } in
    rw c.edits_behind-left.ensures
    (taking_goes_on g.V.View c.args.cond.now c.args.edited.now c.loop-id.left.now c.args.rows.now.items c.loop-id.rows.items c.take_row.new.rows.items
    c.args.view.now c.loop-id.view c.next_after.new.self c.base_row.new.view c.loop-id.at c.in-Some.id c.in_ok-base.base
    (g.met.V.View.ascend c.args.view.now) c.loop-id.invariant (sym c.in_ok-id.ensures.next ∙ c.in-Some.is) read c.base_row.ensures.view
    c.in_ok-base.ensures.row c.in_ok-base.ensures.admitted c.in_ok-take_row.ensures)

pub returns-clause-told : goal.returns-clause-told
returns-clause-told g c tells =
    taking_told g.V.View c.args.cond.now c.args.edited.now c.loop-id.left.now c.args.rows.now.items c.loop-id.rows.items c.args.view.now c.loop-id.view c.loop-id.at
    c.loop-id.invariant (sym c.in_ok-id.ensures.next ∙ c.in_default.is) tells

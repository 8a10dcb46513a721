use Rattle.std.proofs.Common.{◌≡◌, ◌∙◌, ap, sym, subst, refl}
use Rattle.pk_schema.specs.Shapes.{Shape}
use Rattle.pk_bind.specs.Select.{select_refusals}
use Rattle.pk_exec.specs.Rows.{AscendFrom}
use Rattle.pk_exec.specs.ListViews.{listed}
use Rattle.pk_engine.specs.declared.table.editing.TheConstants.{TABLE}
use Rattle.pk_engine.specs.Base.{Table}
use Rattle.pk_engine.proofs.WorkLemmas.{valid_ascends, found_is, answers_again}
use Rattle.pk_engine.proofs.table.Stored.select.Goals as goal

pub new-view-requires : goal.new-view-requires
new-view-requires c =
    rw c.as_slice.ensures.value (subst (λ (t : Table). AscendFrom 1 t.rows) (sym c.self.view_is) (valid_ascends c.args.self.now c.requires.valid))

pub select-requires-clause-fits : goal.select-requires-clause-fits
select-requires-clause-fits c = c.new-work.ensures.fits c.self.inside.schema TABLE

pub select-requires-clause-covers : goal.select-requires-clause-covers
select-requires-clause-covers c = c.new-work.ensures.covers TABLE _

pub returns : goal.returns
returns c =
    let t = c.args.self.now in
    let sel = c.args.select.now in
    let s = c.self.inside.schema in
    let shape : s ≡ t.shape = ap (λ (x : Table). x.shape) c.self.view_is in
    let rows : listed c.new-view.result ≡ t.rows = c.new-view.ensures ∙ c.as_slice.ensures.value ∙ ap (λ (x : Table). x.rows) c.self.view_is in
    answers_again _ _ _ _ c.select.result (ap (λ (x : Shape). select_refusals x sel) shape)
    (found_is t s (listed c.new-view.result) c.new-work.result sel shape rows (c.new-work.ensures.entries, c.new-work.ensures.elsewhere)) (c.select.ensures.answer refl)

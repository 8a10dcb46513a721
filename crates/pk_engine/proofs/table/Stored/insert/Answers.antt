use Rattle.std.proofs.Common.{◌≡◌, ℕ, ◌∙◌, ap, subst, length, None}
use Rattle.pk_values.specs.Refusals.{first_some}
use Rattle.pk_schema.specs.Shapes.{Shape}
use Rattle.pk_bind.specs.Insert.{new_rows}
use Rattle.pk_exec.specs.Edits.{inserted_into}
use Rattle.pk_exec.specs.Refusals.{work_insert_refusals}
use Rattle.pk_exec.specs.Seen.{entries_of}
use Rattle.pk_engine.specs.declared.table.editing.TheConstants.{TABLE}
use Rattle.pk_engine.specs.Base.{Table}
use Rattle.pk_engine.specs.Edits.{insert_entries}
use Rattle.pk_engine.proofs.WorkLemmas.{work_settled}
use Rattle.pk_engine.proofs.table.Stored.insert.Goals as goal

pub insert-requires-clause-fits : goal.insert-requires-clause-fits
insert-requires-clause-fits c = c.new-work.ensures.fits c.self.inside.schema TABLE

pub done-requires-clause-covers : goal.done-requires-clause-covers
done-requires-clause-covers c = c.in-Ok.ensures.covers c.args.self.now.rows (c.new-work.ensures.covers TABLE c.args.self.now.rows)

pub returns-in-Ok : goal.returns-in-Ok
returns-in-Ok c =
    let t = c.args.self.now in
    let i = c.args.insert.now in
    let shape : c.self.inside.schema ≡ t.shape = ap (λ (u : Table). u.shape) c.self.view_is in
    let free = subst (λ (s : Shape). first_some (work_insert_refusals s 0 i) ≡ None) shape
    (subst (λ (n : ℕ). first_some (work_insert_refusals c.self.inside.schema n i) ≡ None) c.new-work.ensures.size c.in-Ok.ensures.answer.0) in
    let same : entries_of c.insert.new.self TABLE t.rows ≡ insert_entries t i =
    c.in-Ok.ensures.entries t.rows
    ∙ ap (λ (s : Shape). inserted_into (new_rows s.columns i) (entries_of c.new-work.result TABLE t.rows)) shape
    ∙ ap (inserted_into (new_rows t.shape.columns i)) (c.new-work.ensures.entries TABLE t.rows) in
    work_settled (work_insert_refusals t.shape 0 i) (length i.rows) (insert_entries t i) t c.in-Ok.n _ c.done.result free c.in-Ok.ensures.answer.1 same c.done.ensures

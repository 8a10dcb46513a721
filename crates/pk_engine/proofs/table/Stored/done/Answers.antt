use Rattle.std.proofs.Common.{◌≡◌, ap, sym, subst}
use Rattle.pk_values.specs.declared.changes.Changes.{Changes}
use Rattle.pk_exec.specs.Rows.{AscendFrom}
use Rattle.pk_exec.specs.Seen.{Covers, entries_of}
use Rattle.pk_engine.specs.declared.outcome.Outcome.TheVariants.{Done}
use Rattle.pk_engine.specs.declared.table.editing.TheConstants.{TABLE}
use Rattle.pk_engine.specs.Base.{Table}
use Rattle.pk_engine.specs.Edits.{changes_in}
use Rattle.pk_engine.proofs.WorkLemmas.{valid_ascends}
use Rattle.pk_engine.proofs.table.Stored.done.Goals as goal

pub returns : goal.returns
returns c =
    let work = c.args.work.now in
    let made = c.in_ok-changes.ensures.changes c.self.inside.rows.items
    (subst (λ (t : Table). AscendFrom 1 t.rows) (sym c.self.view_is) (valid_ascends c.args.self.now c.requires.valid))
    (subst (λ (t : Table). Covers work TABLE t.rows) (sym c.self.view_is) c.requires.covers) in
    subst (λ (t : Table). Done c.args.n c.in_ok-changes.changes ≡ Done c.args.n (changes_in t (entries_of work TABLE t.rows))) c.self.view_is
    (ap (λ (ch : Changes). Done c.args.n ch) made)

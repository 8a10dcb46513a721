use Rattle.std.proofs.Common.{◌≡◌, List, Some, None, is_none, is_some, ap, sym, ◌∙◌}
use Rattle.std.proofs.lemmas.Bool.{false≢true}
use Rattle.pk_values.specs.declared.value.Value.{Value}
use Rattle.pk_schema.specs.Admits.{Admits}
use Rattle.pk_exec.specs.Rows.{row_of}
use Rattle.pk_snapshot.specs.Snapshots.{shown}
use Rattle.pk_snapshot.proofs.RisingLemmas.{is_there}
use Rattle.pk_snapshot.proofs.WalkLemmas.{unchanged_row, unchanged_there, changed_row, of_all, told_row, told_admitted}
use Rattle.pk_snapshot.proofs.snapshot.SnapshotView.row.Goals as goal

-- ---- the row is known to be unchanged

pub row_now-requires : goal.row_now-requires
row_now-requires c =
    let s = c.args.self.now in
    unchanged_there s.session.now s.book.now s.table c.args.id s.rows.now (c.is_known.ensures c.if-is_known.true) c.requires

pub returns-then-is_known-clause-row : goal.returns-then-is_known-clause-row
returns-then-is_known-clause-row c =
    let s = c.args.self.now in
    told_row c.row_now.result (shown s) s.rows.now c.args.id
    (unchanged_row s.session.now s.book.now s.table c.args.id s.rows.now (c.is_known.ensures c.if-is_known.true)) c.row_now.ensures.row

pub returns-then-is_known-clause-admitted : goal.returns-then-is_known-clause-admitted
returns-then-is_known-clause-admitted c =
    let s = c.args.self.now in
    told_admitted c.row_now.result (shown s) s.rows.now c.args.id
    (unchanged_row s.session.now s.book.now s.table c.args.id s.rows.now (c.is_known.ensures c.if-is_known.true)) c.row_now.ensures.row

-- ---- the book says that it is unchanged

pub row_now-requires-in-Current : goal.row_now-requires-in-Current
row_now-requires-in-Current c =
    let s = c.args.self.now in
    unchanged_there s.session.now s.book.now s.table c.args.id s.rows.now (ap is_none c.in-Current.ensures) c.requires

pub returns-in-Current-clause-row : goal.returns-in-Current-clause-row
returns-in-Current-clause-row c =
    let s = c.args.self.now in
    told_row c.row_now-in-Current.result (shown s) s.rows.now c.args.id
    (unchanged_row s.session.now s.book.now s.table c.args.id s.rows.now (ap is_none c.in-Current.ensures)) c.row_now-in-Current.ensures.row

pub returns-in-Current-clause-admitted : goal.returns-in-Current-clause-admitted
returns-in-Current-clause-admitted c =
    let s = c.args.self.now in
    told_admitted c.row_now-in-Current.result (shown s) s.rows.now c.args.id
    (unchanged_row s.session.now s.book.now s.table c.args.id s.rows.now (ap is_none c.in-Current.ensures)) c.row_now-in-Current.ensures.row

-- ---- its image gives it back

pub returns-in_ok-copy-in-Was-clause-row : goal.returns-in_ok-copy-in-Was-clause-row
returns-in_ok-copy-in-Was-clause-row c told =
    let s = c.args.self.now in
    changed_row s.session.now s.book.now s.table c.args.id s.rows.now (Some c.in-Was.row.now) c.in-Was.ensures
    ∙ ap (λ (row : List Value). Some row) (sym c.in_ok-copy-in-Was.ensures)

pub returns-in_ok-copy-in-Was-clause-admitted : goal.returns-in_ok-copy-in-Was-clause-admitted
returns-in_ok-copy-in-Was-clause-admitted c shape all =
    let s = c.args.self.now in
    of_all (Admits shape) (shown s) c.args.id c.in_ok-copy-in-Was.field-0 all
    (changed_row s.session.now s.book.now s.table c.args.id s.rows.now (Some c.in-Was.row.now) c.in-Was.ensures
    ∙ ap (λ (row : List Value). Some row) (sym c.in_ok-copy-in-Was.ensures))

-- ---- its image doesn't say that it wasn't there

pub unreachable-requires : goal.unreachable-requires
unreachable-requires c =
    let s = c.args.self.now in
    let gone : row_of (shown s) c.args.id ≡ None = changed_row s.session.now s.book.now s.table c.args.id s.rows.now None c.in-Absent.ensures in
    false≢true (sym (ap is_some gone) ∙ is_there (shown s) c.args.id c.requires)

use Rattle.std.proofs.Common.{◌≡◌, ◌+◌, ◌≤◌, List, sym, subst}
use Rattle.std.specs.Prelude.{OnOk}
use Rattle.pk_exec.specs.Works.{most_changes, IsWork, TableEdits, add_rows, edit_count, size_elsewhere, with_table}
use Rattle.pk_exec.specs.declared.table_edits.EditedRow.{EditedRow}
use Rattle.pk_exec.proofs.AppendLemmas.{appended_work, appended_tables, edits_absent, rows_fit}
use Rattle.pk_exec.proofs.work.Work.append.Goals as goal

pub invariant_of-self : goal.invariant_of-self
invariant_of-self c =
    appended_work c.args.self.now c.self.inside.tables.items c.args.table c.place_of-place.result c.is_at.result c.index_mut.result.now c.append.new.self c.args.rows.items c.append.result
    c.self.view_is (subst IsWork c.self.view_is c.self.invariant) c.place_of-place.ensures c.is_at.ensures c.if-is_at.true c.index_mut.ensures.value
    c.append.ensures.ok c.append.ensures.err c.requires

pub returns-then-is_at : goal.returns-then-is_at
returns-then-is_at c =
    appended_tables c.args.self.now c.self.inside.tables.items c.args.table c.place_of-place.result c.is_at.result c.index_mut.result.now c.append.new.self c.args.rows.items c.append.result
    c.self.view_is c.place_of-place.ensures c.is_at.ensures c.if-is_at.true c.index_mut.ensures.value c.append.ensures.ok

pub put-requires : goal.put-requires
put-requires c =
    let w = c.args.self.now in
    let k = c.args.table in
    let is = subst IsWork c.self.view_is c.self.invariant in
    let none = edits_absent w k c.place_of-place.result c.is_at.result is c.place_of-place.ensures c.is_at.ensures c.if-is_at.false in
    subst (λ (es : List EditedRow). size_elsewhere w k + edit_count (record { table = k; edited = es; added = c.args.rows.items }) ≤ most_changes) (sym c.new.ensures.items)
    (subst (λ (t : TableEdits). size_elsewhere w k + edit_count (add_rows c.args.rows.items t) ≤ most_changes) none (rows_fit w k c.args.rows.items is c.requires))

pub returns : goal.returns
returns c =
    let w = c.args.self.now in
    let k = c.args.table in
    let is = subst IsWork c.self.view_is c.self.invariant in
    let none = edits_absent w k c.place_of-place.result c.is_at.result is c.place_of-place.ensures c.is_at.ensures c.if-is_at.false in
    subst (λ (t : TableEdits). OnOk c.put-2.result (c.put-2.new.self ≡ with_table (add_rows c.args.rows.items t) w)) (sym none)
    (subst (λ (es : List EditedRow). OnOk c.put-2.result (c.put-2.new.self ≡ with_table (record { table = k; edited = es; added = c.args.rows.items }) w)) c.new.ensures.items
    c.put-2.ensures)

-- A commit of changes that entries make of one table.
use Rattle.std.proofs.Common.{◌≡◌, ℕ, ◌+◌, ◌-◌, ◌^◌, ◌≤◌, ◌<◌, true, List, [], ◌∷◌, length, get_or, set, Some, None, Ok, Err, IsTrue, ap, refl, ◌∙◌, sym, subst, arith}
use Rattle.std.specs.Prelude.{min, nat_le, sum_by, slice_get, insert}
use Rattle.std.specs.List.{position, remove}
use Rattle.std.proofs.lemmas.List.Sums.{sum_by-set, sum_by-remove}
use Rattle.std.proofs.lemmas.Option.{get_or_from_slice_get, slice_get_within, slice_get-get_or}
use Rattle.std.proofs.lemmas.List.Quantifiers.{position-Some}
use Rattle.std.proofs.lemmas.Slice.Eq.{bytes_eq-Decides}
use Rattle.pk_syntax.specs.declared.declaration.TableDecl.{TableDecl}
use Rattle.pk_schema.specs.Shapes.{Shape, IsShape, shape_of}
use Rattle.pk_values.specs.declared.changes.Changes.{Changes}
use Rattle.pk_values.specs.declared.refusal.Refusal.{Refusal}
use Rattle.pk_values.specs.declared.refusal.Refusal.TheVariants.{BaseLimit, TableExists}
use Rattle.pk_values.specs.declared.refusal.BaseLimitName.TheVariants as base_limits
use Rattle.pk_values.specs.Refusals.{first_some}
use Rattle.pk_engine.specs.Base.{Table, is_named, table_named, with_table, without_table, change_table, row_count, added_by, changed_by}
use Rattle.pk_exec.specs.Refusals.{many_changes}
use Rattle.pk_engine.specs.Create.{if_found, table_exists}
use Rattle.pk_engine.specs.Drop.{table_large, drop_refusals, dropped}
use Rattle.pk_engine.specs.Refusing.{refused, decided}
use Rattle.pk_engine.specs.Edits.{change_refusals}
use Rattle.pk_engine.specs.Keys.{key_broken}
use Rattle.pk_engine.specs.Entries.{AreOf}
use Rattle.pk_engine.specs.Limits.{most_tables, most_rows, most_ids, rows_full, ids_full, commits_full, limit_refusals}
use Rattle.pk_engine.specs.Place.{IsPlaceOf}
use Rattle.pk_guard.specs.Changed.{IdsAscend}
use Rattle.pk_guard.specs.Laws.{KeysHoldWhereNothingBreaks}
use Rattle.pk_engine.specs.State.{State, Made, Dropped, Changed, made_table, current, committed, with_commit}
use Rattle.pk_engine.specs.Stands.{StandsFor}
use Rattle.pk_engine.specs.Valid.{is_table_name, IsValidTable}
use Rattle.pk_engine.specs.declared.engine.Engine.{Engine}
use Rattle.pk_engine.proofs.ListLemmas.{first_place}
use Rattle.pk_engine.proofs.OrderLemmas.{blank, place_of_table}
use Rattle.pk_engine.proofs.TableLemmas.{change_place, without_place, with_table_place, named_at, none_named}
use Rattle.pk_engine.proofs.RowLemmas.{rises}
use Rattle.pk_engine.proofs.EntryLemmas.{entries_counted, length-placed, put_counted, added_few, gone_ascend}
use Rattle.pk_engine.proofs.PutLemmas.{entries_committed}
use Rattle.pk_engine.proofs.LimitLemmas.{rows_within, ids_within, commits_within}
use Rattle.pk_engine.proofs.StandsLemmas.{table_at, table_absent, place_within, stands_table, stands_tables, stands_order, stands_rows, stands_valid, stands_commit, commit_stands}
use Rattle.pk_engine.proofs.AnswerLemmas.{second_refused, both_free}
use Rattle.pk_engine.proofs.ValidLemmas.{changed_is_valid, made_is_valid, dropped_is_valid, rows_with_table}
use Rattle.pk_values.proofs.RefusalLemmas.{first_behind, head_free, first_alone}
use Rattle.std.proofs.lemmas.Bool.{lt-ltb, le-ltb}

-- what changes make of a table's counts
pub record IsCounted (t : Table) (c : Changes) : Type 0 where
  pub next : (changed_by c t).next ≡ t.next + added_by t c
  pub rows : length c.gone + length (changed_by c t).rows ≡ length t.rows + added_by t c
  pub gone : length c.gone ≤ length t.rows
  pub ascend : IdsAscend c.gone

pub counted : (t : Table) (c : Changes) → IsValidTable t → AreOf t c → IsCounted t c
counted t c valid of =
    let es = of.0 in
    let is = of.3 in
    let made = ap (λ (d : Changes). changed_by d t) is ∙ entries_committed t es (rises t valid) of.1 in
    let n = ap (λ (d : Changes). added_by t d) is ∙ put_counted t.rows es 1 t.next of.1 (rises t valid) in
    let all = entries_counted t.rows es 1 t.next of.1 (rises t valid) in
    let rows = ap (λ (u : Table). length u.rows) made ∙ length-placed es t.next in
    let gone = ap (λ (d : Changes). length d.gone) is in
    let few = added_few es in
    record {
      next = ap (λ (u : Table). u.next) made ∙ ap (λ (k : ℕ). t.next + k) (sym n);
      rows = omega (arith, n, all, rows, gone);
      gone = omega (arith, all, gone, few);
      ascend = subst (λ (d : Changes). IdsAscend d.gone) (sym is) (gone_ascend t.rows es 1 t.next (rises t valid));
    }

-- ---- the tables after the commit

-- the table stands where its name is found
pub found_at : (e : Engine) (st : State) (place : ℕ) (t : Table) → StandsFor e st → slice_get e.tables.items place ≡ Some t → position (is_named t.name) e.tables.items ≡ Some place
found_at e st place t stands is =
    place_of_table e.tables.items place t (stands_order e st stands) (slice_get_within e.tables.items place t is) (sym (get_or_from_slice_get e.tables.items place t blank is))

pub tables_changed : (e : Engine) (st : State) (place : ℕ) (t : Table) (c : Changes) → StandsFor e st → slice_get e.tables.items place ≡ Some t
    → change_table t.name c e.tables.items ≡ set e.tables.items place (changed_by c t)
tables_changed e st place t c stands is =
    let at = (first_place (is_named t.name) e.tables.items place blank (found_at e st place t stands is)).1 in
    let there = get_or_from_slice_get e.tables.items place t blank is in
    change_place t.name c e.tables.items blank
    ∙ ap (λ (i : ℕ). set e.tables.items i (changed_by c (get_or e.tables.items i blank))) at
    ∙ ap (λ (u : Table). set e.tables.items place (changed_by c u)) there

rows_after : (e : Engine) (st : State) (place : ℕ) (t : Table) (c : Changes) → StandsFor e st → slice_get e.tables.items place ≡ Some t
    → row_count (committed (current st) (Changed ((t.name, c) ∷ []))) + length t.rows ≡ e.rows + length (changed_by c t).rows
rows_after e st place t c stands is =
    let within = slice_get_within e.tables.items place t is in
    let there = get_or_from_slice_get e.tables.items place t blank is in
    let tables = ap (change_table t.name c) (stands_tables e st stands) ∙ tables_changed e st place t c stands is in
    let new = ap (sum_by (λ (u : Table). length u.rows)) tables in
    let old = stands_rows e st stands ∙ ap (sum_by (λ (u : Table). length u.rows)) (stands_tables e st stands) in
    let sums = sum_by-set (λ (u : Table). length u.rows) e.tables.items place (changed_by c t) blank within in
    let same : length (get_or e.tables.items place blank).rows ≡ length t.rows = ap (λ (u : Table). length u.rows) there in
    omega (arith, new, old, sums, same)

rows_of_one : (e : Engine) (st : State) (place : ℕ) (t : Table) → StandsFor e st → slice_get e.tables.items place ≡ Some t → length t.rows ≤ e.rows
rows_of_one e st place t stands is =
    let within = slice_get_within e.tables.items place t is in
    let there = ap (λ (u : Table). length u.rows) (get_or_from_slice_get e.tables.items place t blank is) in
    let old = stands_rows e st stands ∙ ap (sum_by (λ (u : Table). length u.rows)) (stands_tables e st stands) in
    let sums = sum_by-remove (λ (u : Table). length u.rows) e.tables.items place blank within in
    omega (arith, there, old, sums)

-- the rows of the base after the commit, as they are counted
pub rows_with_is : (e : Engine) (st : State) (place : ℕ) (t : Table) (c : Changes) (n : ℕ) → StandsFor e st → slice_get e.tables.items place ≡ Some t → IsCounted t c
    → n ≡ min (e.rows - length c.gone + added_by t c) (2 ^ 64 - 1)
    → n ≡ min (row_count (committed (current st) (Changed ((t.name, c) ∷ [])))) (2 ^ 64 - 1)
rows_with_is e st place t c n stands is count sum =
    let after = rows_after e st place t c stands is in
    let one = rows_of_one e st place t stands is in
    let rows = count.rows in
    let gone = count.gone in
    let same : e.rows - length c.gone + added_by t c ≡ row_count (committed (current st) (Changed ((t.name, c) ∷ []))) = omega (arith, after, one, rows, gone) in
    sum ∙ ap (λ (k : ℕ). min k (2 ^ 64 - 1)) same

-- ---- the limits, in their order

pub rows_refused : (st : State) (t : Table) (c : Changes) (n : ℕ) → n ≡ min (row_count (committed (current st) (Changed ((t.name, c) ∷ [])))) (2 ^ 64 - 1) → most_rows < n
    → Some (BaseLimit base_limits.Rows) ≡ first_some (limit_refusals st t c)
rows_refused st t c n is gt = rw (lt-ltb most_rows (row_count (committed (current st) (Changed ((t.name, c) ∷ [])))) (omega (arith, is, gt))) refl

pub rows_free : (st : State) (t : Table) (c : Changes) (n : ℕ) → n ≡ min (row_count (committed (current st) (Changed ((t.name, c) ∷ [])))) (2 ^ 64 - 1) → n ≤ most_rows
    → first_some (limit_refusals st t c) ≡ first_some (ids_full t c ∷ commits_full st ∷ [])
rows_free st t c n is le = rw (le-ltb most_rows (row_count (committed (current st) (Changed ((t.name, c) ∷ [])))) (omega (arith, is, le))) refl

pub ids_refused : (st : State) (t : Table) (c : Changes) → IsCounted t c → most_ids < min (t.next + added_by t c) (2 ^ 64 - 1)
    → Some (BaseLimit base_limits.RowIds) ≡ first_some (ids_full t c ∷ commits_full st ∷ [])
ids_refused st t c count gt = rw (lt-ltb most_ids (changed_by c t).next (let next = count.next in omega (arith, next, gt))) refl

pub ids_free : (st : State) (t : Table) (c : Changes) → IsCounted t c → min (t.next + added_by t c) (2 ^ 64 - 1) ≤ most_ids
    → first_some (ids_full t c ∷ commits_full st ∷ []) ≡ commits_full st
ids_free st t c count le = rw (le-ltb most_ids (changed_by c t).next (let next = count.next in omega (arith, next, le))) (first_alone (commits_full st))

-- ---- the commit

-- what changes have room for of which nothing is refused
pub record HasRoom (st : State) (t : Table) (c : Changes) : Type 0 where
  pub rows : rows_full st (Changed ((t.name, c) ∷ [])) ≡ None
  pub ids : ids_full t c ≡ None
  pub commits : commits_full st ≡ None
  pub keys : key_broken (changed_by c t) ≡ None

pub has_room : (st : State) (t : Table) (c : Changes) → first_some (change_refusals st t c) ≡ None → HasRoom st t c
has_room st t c free =
    let rows = head_free (rows_full st (Changed ((t.name, c) ∷ []))) _ free in
    let ids = head_free (ids_full t c) _ rows.1 in
    let commits = head_free (commits_full st) _ ids.1 in
    let keys = head_free (key_broken (changed_by c t)) [] commits.1 in
    record { rows = rows.0; ids = ids.0; commits = commits.0; keys = keys.0 }

-- an engine that has changed the table at the place stands for the state with that commit
pub changes_stand : KeysHoldWhereNothingBreaks → (e n : Engine) (st : State) (place : ℕ) (t : Table) (c : Changes) (rows : ℕ) → StandsFor e st → slice_get e.tables.items place ≡ Some t → IsValidTable t → AreOf t c
    → first_some (change_refusals st t c) ≡ None → rows ≡ min (row_count (committed (current st) (Changed ((t.name, c) ∷ [])))) (2 ^ 64 - 1)
    → n.commit ≡ e.commit + 1 → n.tables.items ≡ set e.tables.items place (changed_by c t) → n.rows ≡ rows
    → StandsFor n (with_commit st (Changed ((t.name, c) ∷ [])))
changes_stand unbroken e n st place t c rows stands is good of none sum commit tables count =
    let room = has_room st t c none in
    let most = rows_within st t c room.rows in
    let there = ap (table_named t.name) (stands_tables e st stands) ∙ named_at t.name e.tables.items place t (found_at e st place t stands is) (sym (get_or_from_slice_get e.tables.items place t t is)) in
    commit_stands e n st (Changed ((t.name, c) ∷ [])) stands commit
    (tables ∙ sym (tables_changed e st place t c stands is))
    (count ∙ omega (arith, sum, most))
    (changed_is_valid unbroken (current st) t c (stands_valid e st stands) there good of (ids_within t c room.ids) most (commits_within st room.commits) room.keys)

-- ---- what changes are refused for

-- where the limits have room, the keys decide
pub keys_decide : (st : State) (t : Table) (c : Changes) → first_some (limit_refusals st t c) ≡ None → first_some (change_refusals st t c) ≡ key_broken (changed_by c t)
keys_decide st t c free = first_behind (limit_refusals st t c) (key_broken (changed_by c t) ∷ []) free ∙ first_alone (key_broken (changed_by c t))

-- ---- the table at a place

pub same_at : (ts : List Table) (place : ℕ) (t u : Table) → u ≡ get_or ts place u → slice_get ts place ≡ Some t → u ≡ t
same_at ts place t u there is = there ∙ get_or_from_slice_get ts place t u is

pub valid_at : (e : Engine) (st : State) (place : ℕ) (t : Table) → StandsFor e st → slice_get e.tables.items place ≡ Some t → IsValidTable t
valid_at e st place t stands is =
    stands_table e st place t stands (slice_get_within e.tables.items place t is) (sym (get_or_from_slice_get e.tables.items place t t is))

pub some_at : (ts : List Table) (place : ℕ) (u : Table) → place < length ts → u ≡ get_or ts place u → slice_get ts place ≡ Some u
some_at ts place u within there = slice_get-get_or ts place u within ∙ ap (λ (x : Table). Some x) (sym there)

-- the table's name is the one by which it was found
pub name_at : (name : List ℕ) (ts : List Table) (place : ℕ) (t : Table) → IsPlaceOf name ts (Ok place) → slice_get ts place ≡ Some t → t.name ≡ name
name_at name ts place t at is =
    let w = position-Some (is_named name) ts place blank at in
    let there = get_or_from_slice_get ts place t blank is in
    (bytes_eq-Decides t.name name).0 (subst (λ (u : Table). is_named name u ≡ true) there w.1)

-- ---- a table made

pub made_stands : (e n : Engine) (st : State) (d : TableDecl) (s : Shape) (place : ℕ) (t : Table) → StandsFor e st → IsPlaceOf d.table e.tables.items (Err place)
    → IsTrue (is_table_name d.table) → s ≡ shape_of d → IsShape s → length e.tables.items < most_tables → e.commit < most_ids → t ≡ made_table d.table s
    → n.commit ≡ e.commit + 1 → n.tables.items ≡ insert e.tables.items place t → n.rows ≡ e.rows
    → StandsFor n (with_commit st (Made d.table (shape_of d)))
made_stands e n st d s place t stands free named is shape few commits made commit tables rows =
    let new = made_table d.table (shape_of d) in
    let same : t ≡ new = made ∙ ap (made_table d.table) is in
    let put : n.tables.items ≡ with_table new e.tables.items =
    tables ∙ ap (insert e.tables.items place) same ∙ ap (λ (i : ℕ). insert e.tables.items i new) (sym free.1) ∙ sym (with_table_place new e.tables.items) in
    let counted = rows_with_table new e.tables.items in
    let old = stands_rows e st stands ∙ ap (sum_by (λ (u : Table). length u.rows)) (stands_tables e st stands) in
    let after : row_count (committed (current st) (Made d.table (shape_of d))) ≡ sum_by (λ (u : Table). length u.rows) (with_table new e.tables.items) =
    ap (λ (ts : List Table). sum_by (λ (u : Table). length u.rows) (with_table new ts)) (stands_tables e st stands) in
    commit_stands e n st (Made d.table (shape_of d)) stands commit put
    (omega (arith, rows, counted, old, after))
    (made_is_valid (current st) d.table (shape_of d) (stands_valid e st stands) named (subst IsShape is shape)
    (ap (table_named d.table) (stands_tables e st stands) ∙ none_named d.table e.tables.items free.0)
    (rw (ap length (stands_tables e st stands)) few)
    (rw (stands_commit e st stands) commits))

-- ---- a table dropped

pub rows_left : (e : Engine) (st : State) (place : ℕ) (t : Table) → StandsFor e st → place < length e.tables.items → t ≡ get_or e.tables.items place t → length t.rows ≤ e.rows
rows_left e st place t stands within there = rows_of_one e st place t stands (some_at e.tables.items place t within there)

pub dropped_stands : (e n : Engine) (st : State) (place : ℕ) (t : Table) → StandsFor e st → slice_get e.tables.items place ≡ Some t → e.commit < most_ids
    → n.commit ≡ e.commit + 1 → n.tables.items ≡ remove e.tables.items place → n.rows ≡ e.rows - length t.rows
    → StandsFor n (with_commit st (Dropped t.name))
dropped_stands e n st place t stands is commits commit tables rows =
    let within = slice_get_within e.tables.items place t is in
    let at = (first_place (is_named t.name) e.tables.items place blank (found_at e st place t stands is)).1 in
    let left : without_table t.name e.tables.items ≡ remove e.tables.items place = without_place t.name e.tables.items ∙ ap (remove e.tables.items) at in
    let sums = sum_by-remove (λ (u : Table). length u.rows) e.tables.items place blank within in
    let there = ap (λ (u : Table). length u.rows) (get_or_from_slice_get e.tables.items place t blank is) in
    let old = stands_rows e st stands ∙ ap (sum_by (λ (u : Table). length u.rows)) (stands_tables e st stands) in
    let after : row_count (committed (current st) (Dropped t.name)) ≡ sum_by (λ (u : Table). length u.rows) (remove e.tables.items place) =
    ap (λ (ts : List Table). sum_by (λ (u : Table). length u.rows) (without_table t.name ts)) (stands_tables e st stands) ∙ ap (sum_by (λ (u : Table). length u.rows)) left in
    commit_stands e n st (Dropped t.name) stands commit (tables ∙ sym left)
    (omega (arith, rows, sums, there, old, after))
    (dropped_is_valid (current st) t.name (stands_valid e st stands) (rw (stands_commit e st stands) commits))

-- ---- whether a table is there

pub exists_there : (e : Engine) (st : State) (name : List ℕ) (place : ℕ) → StandsFor e st → IsPlaceOf name e.tables.items (Ok place) → table_exists st name ≡ Some (TableExists name)
unfolding table_exists
exists_there e st name place stands at =
    ap (if_found name) (table_at e st name place (get_or e.tables.items place blank) stands at (slice_get-get_or e.tables.items place blank (place_within name e.tables.items place blank at)))

pub exists_nowhere : (e : Engine) (st : State) (name : List ℕ) (place : ℕ) → StandsFor e st → IsPlaceOf name e.tables.items (Err place) → table_exists st name ≡ None
unfolding table_exists
exists_nowhere e st name place stands at = ap (if_found name) (table_absent e st name place stands at)

-- ---- what DROP TABLE is refused for

few_enough : (n : ℕ) → n ≤ 20000 → many_changes n ≡ None
few_enough n le = rw (test n le) refl
  where
    test : (n : ℕ) → n ≤ 20000 → nat_le n 20000 ≡ true
    test n le = grind (arith, le)

pub drop_refused : (st : State) (t : Table) (r : Refusal) → length t.rows ≤ 20000 → commits_full st ≡ Some r → decided st (drop_refusals st t) (dropped st t) ≡ refused st r
drop_refused st t r few full = second_refused st (table_large t) (commits_full st) (dropped st t) r (few_enough (length t.rows) few) full

pub drop_done : (st : State) (t : Table) → length t.rows ≤ 20000 → commits_full st ≡ None → decided st (drop_refusals st t) (dropped st t) ≡ dropped st t
drop_done st t few free = both_free st (table_large t) (commits_full st) (dropped st t) (few_enough (length t.rows) few) free

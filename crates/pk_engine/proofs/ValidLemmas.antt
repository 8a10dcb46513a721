-- Bases stay valid.
use Rattle.std.proofs.Common.{◌≡◌, ℕ, ◌+◌, ◌≤◌, ◌<◌, Bool, true, false, List, [], ◌∷◌, Some, None, length, if◌then◌else◌, refl, suc, subst, ap, take, drop, get_or, IsTrue, arith, ◌∙◌, sym}
use Rattle.std.specs.Prelude.{sum_by}
use Rattle.std.specs.List.{All, AllByRecursion, position_or_len}
use Rattle.std.specs.List.Sorted.{IsStrictlySortedBy}
use Rattle.std.proofs.lemmas.List.Elements.{All-nil, All-cons, All-append, All-take, All-drop, All-from_recursion, recursion_from_All}
use Rattle.std.proofs.lemmas.List.Sums.{sum_by-insert, sum_by-cons}
use Rattle.pk_values.specs.declared.placed.Placed.{Placed}
use Rattle.pk_values.specs.declared.changes.Changes.{Changes}
use Rattle.pk_values.specs.declared.value.Value.{Value}
use Rattle.pk_values.specs.Values.{IsStorable}
use Rattle.pk_schema.specs.Shapes.{Shape, IsShape}
use Rattle.pk_schema.specs.Admits.{Admits}
use Rattle.pk_exec.specs.Entries.{Entry, row_in}
use Rattle.pk_exec.specs.Changes.{added_rows}
use Rattle.pk_guard.specs.Laws.{KeysHoldWhereNothingBreaks}
use Rattle.pk_engine.specs.Base.{Base, Table, empty_base, is_named, comes_before, table_named, with_table, without_table, changed_by, change_table, row_count}
use Rattle.pk_engine.specs.Entries.{placed, MayBeKept, AreOf}
use Rattle.pk_engine.specs.State.{Made, Dropped, Changed, made_table, committed}
use Rattle.pk_engine.specs.Keys.{key_broken}
use Rattle.pk_engine.specs.Limits.{most_tables, most_rows, most_ids}
use Rattle.pk_engine.specs.Valid.{is_table_name, IsValidTable, IsValid}
use Rattle.pk_engine.proofs.OrderLemmas.{order_with, order_changed, order_without}
use Rattle.pk_engine.proofs.TableLemmas.{with_table_place}
use Rattle.pk_engine.proofs.KeyLemmas.{no_rows_hold, unbroken_hold}
use Rattle.pk_engine.proofs.RowLemmas.{IdsRise, rises, rise_ascends, rise_below, rise_room}
use Rattle.pk_engine.proofs.EntryLemmas.{entries_rise, entries_hold}
use Rattle.pk_engine.proofs.PutLemmas.{entries_committed}

-- ---- a table made

pub empty_base_valid : IsValid empty_base
unfolding IsStrictlySortedBy
empty_base_valid = record { names = tt; tables = All-nil IsValidTable; few_tables = omega arith; few_rows = omega arith; few_commits = omega arith }

made_valid : (name : List ℕ) (s : Shape) → IsTrue (is_table_name name) → IsShape s → IsValidTable (made_table name s)
unfolding IsStrictlySortedBy
made_valid name s named shape = record {
  named = named;
  shape = shape;
  ids = (tt, tt);
  below = All-nil (λ (p : Placed). p.id < 1);
  first = omega arith;
  rows = All-nil (λ (p : Placed). Admits s p.row);
  values = All-nil (λ (p : Placed). All IsStorable p.row);
  next = omega arith;
  keys = no_rows_hold s;
}

tables_with : (t : Table) (ts : List Table) → IsValidTable t → All IsValidTable ts → All IsValidTable (with_table t ts)
tables_with t ts valid all =
    let place = position_or_len (λ (u : Table). comes_before t.name u.name) ts in
    rw (with_table_place t ts) (All-append IsValidTable (take place ts) (t ∷ drop place ts)
    (All-take IsValidTable place ts all) (All-cons IsValidTable t (drop place ts) valid (All-drop IsValidTable place ts all)))

length-with_table : (t : Table) (ts : List Table) → length (with_table t ts) ≡ suc (length ts)
unfolding with_table
length-with_table t [] = refl
length-with_table t (u ∷ us) = elim (comes_before t.name u.name) as (λ b. length (if b then t ∷ u ∷ us else u ∷ with_table t us) ≡ suc (suc (length us))) [
  | true ↦ refl
  | false ↦ ap suc (length-with_table t us)
]

pub rows_with_table : (t : Table) (ts : List Table) → sum_by (λ (u : Table). length u.rows) (with_table t ts) ≡ length t.rows + sum_by (λ (u : Table). length u.rows) ts
rows_with_table t ts =
    let place = position_or_len (λ (u : Table). comes_before t.name u.name) ts in
    let counted = sum_by-insert (λ (u : Table). length u.rows) ts place t in
    let is = ap (sum_by (λ (u : Table). length u.rows)) (with_table_place t ts) in
    omega (arith, counted, is)

-- a base is valid with one table more, where there is room
pub made_is_valid : (b : Base) (name : List ℕ) (s : Shape) → IsValid b → IsTrue (is_table_name name) → IsShape s → table_named name b.tables ≡ None → length b.tables < most_tables → b.commit < most_ids
    → IsValid (committed b (Made name s))
made_is_valid b name s valid named shape new room commits = record {
  names = order_with (made_table name s) b.tables valid.names new;
  tables = tables_with (made_table name s) b.tables (made_valid name s named shape) valid.tables;
  few_tables = (let n = length-with_table (made_table name s) b.tables in omega (arith, n, room));
  few_rows = (let n = rows_with_table (made_table name s) b.tables in let old = valid.few_rows in omega (arith, n, old));
  few_commits = omega (arith, commits);
}

-- ---- a table dropped

without_all : (P : Table → Type 0) (name : List ℕ) (ts : List Table) → AllByRecursion P ts → AllByRecursion P (without_table name ts)
unfolding without_table
without_all P name [] all = tt
without_all P name (t ∷ ts) all = elim (is_named name t) as (λ b. AllByRecursion P (if b then ts else t ∷ without_table name ts)) [
  | true ↦ all.1
  | false ↦ (all.0, without_all P name ts all.1)
]

length-without : (name : List ℕ) (ts : List Table) → length (without_table name ts) ≤ length ts
unfolding without_table
length-without name [] = omega arith
length-without name (t ∷ ts) = elim (is_named name t) as (λ b. length (if b then ts else t ∷ without_table name ts) ≤ suc (length ts)) [
  | true ↦ omega arith
  | false ↦ (let rest = length-without name ts in omega (arith, rest))
]

rows_without : (name : List ℕ) (ts : List Table) → sum_by (λ (u : Table). length u.rows) (without_table name ts) ≤ sum_by (λ (u : Table). length u.rows) ts
unfolding without_table
rows_without name [] = omega arith
rows_without name (t ∷ ts) = go (is_named name t) (rows_without name ts)
  where
    go : (b : Bool) → sum_by (λ (v : Table). length v.rows) (without_table name ts) ≤ sum_by (λ (v : Table). length v.rows) ts
        → sum_by (λ (v : Table). length v.rows) (if b then ts else t ∷ without_table name ts) ≤ sum_by (λ (v : Table). length v.rows) (t ∷ ts)
    go true rest = (let all = sum_by-cons (λ (v : Table). length v.rows) t ts in omega (arith, all))
    go false rest =
        let all = sum_by-cons (λ (v : Table). length v.rows) t ts in
        let left = sum_by-cons (λ (v : Table). length v.rows) t (without_table name ts) in
        omega (arith, all, left, rest)

-- and without one
pub dropped_is_valid : (b : Base) (name : List ℕ) → IsValid b → b.commit < most_ids → IsValid (committed b (Dropped name))
dropped_is_valid b name valid commits = record {
  names = order_without name b.tables valid.names;
  tables = All-from_recursion IsValidTable (without_table name b.tables) (without_all IsValidTable name b.tables (recursion_from_All IsValidTable b.tables valid.tables));
  few_tables = (let n = length-without name b.tables in let old = valid.few_tables in omega (arith, n, old));
  few_rows = (let n = rows_without name b.tables in let old = valid.few_rows in omega (arith, n, old));
  few_commits = omega (arith, commits);
}

-- ---- rows changed

-- what entries make of a table
abbrev made_by : Table → List Entry → Table
made_by t es = record t { next = t.next + length (added_rows es); rows = placed t.next es }

made_is : (t : Table) (c : Changes) → IsValidTable t → (of : AreOf t c) → changed_by c t ≡ made_by t of.0
made_is t c valid of = ap (λ (d : Changes). changed_by d t) of.3 ∙ entries_committed t of.0 (rises t valid) of.1

-- the rows of the entries have what each row of a table that may be kept has
made_have : (P : List Value → Type 0) (t : Table) (es : List Entry) → ((row : List Value) → MayBeKept t.shape row → P row)
    → All (λ (e : Entry). MayBeKept t.shape (row_in e)) es → All (λ (p : Placed). P p.row) (placed t.next es)
made_have P t es has all = λ i p within. has (get_or (placed t.next es) i p).row (kept i p within)
  where
    kept : All (λ (p : Placed). MayBeKept t.shape p.row) (placed t.next es)
    kept =
        All-from_recursion (λ (p : Placed). MayBeKept t.shape p.row) (placed t.next es)
        (entries_hold (MayBeKept t.shape) es t.next (recursion_from_All (λ (e : Entry). MayBeKept t.shape (row_in e)) es all))

made_admitted : (t : Table) (es : List Entry) → All (λ (e : Entry). MayBeKept t.shape (row_in e)) es → All (λ (p : Placed). Admits t.shape p.row) (placed t.next es)
made_admitted t es all = made_have (Admits t.shape) t es (λ row kept. kept.0) all

-- ids rise after such changes
pub changed_rise : (t : Table) (c : Changes) → IsValidTable t → AreOf t c → IdsRise 1 (changed_by c t).rows (changed_by c t).next
changed_rise t c valid of = subst (λ (u : Table). IdsRise 1 u.rows u.next) (sym (made_is t c valid of)) (entries_rise t.rows of.0 1 t.next of.1 (rises t valid))

-- the schema of a table after such changes, and that it admits the rows
pub changed_admitted : (t : Table) (c : Changes) → IsValidTable t → AreOf t c → IsShape (changed_by c t).shape × All (λ (p : Placed). Admits (changed_by c t).shape p.row) (changed_by c t).rows
changed_admitted t c valid of =
    subst (λ (u : Table). IsShape u.shape × All (λ (p : Placed). Admits u.shape p.row) u.rows) (sym (made_is t c valid of)) (valid.shape, made_admitted t of.0 of.2)

-- a table is valid after changes that entries make of it, where its ids have room and no key is broken
pub changed_table_valid : KeysHoldWhereNothingBreaks → (t : Table) (c : Changes) → IsValidTable t → AreOf t c → (changed_by c t).next ≤ most_ids → key_broken (changed_by c t) ≡ None → IsValidTable (changed_by c t)
changed_table_valid unbroken t c valid of room free =
    let es = of.0 in
    let is = made_is t c valid of in
    let rise = entries_rise t.rows es 1 t.next of.1 (rises t valid) in
    subst IsValidTable (sym is) record {
      named = valid.named;
      shape = valid.shape;
      ids = rise_ascends 1 _ (placed t.next es) rise;
      below = rise_below 1 _ (placed t.next es) rise;
      first = rise_room 1 _ (placed t.next es) rise;
      rows = made_admitted t es of.2;
      values = made_have (All IsStorable) t es (λ row kept. kept.1) of.2;
      next = subst (λ (u : Table). u.next ≤ most_ids) is room;
      keys = unbroken_hold unbroken (made_by t es) valid.shape (made_admitted t es of.2) (subst (λ (u : Table). key_broken u ≡ None) is free);
    }

changed_all : (P : Table → Type 0) (name : List ℕ) (c : Changes) (ts : List Table) → AllByRecursion P ts → ((t : Table) → table_named name ts ≡ Some t → P t → P (changed_by c t))
    → AllByRecursion P (change_table name c ts)
unfolding change_table table_named
changed_all P name c [] all keeps = tt
changed_all P name c (t ∷ ts) all keeps = go (is_named name t) refl (changed_all P name c ts all.1)
  where
    go : (b : Bool) → is_named name t ≡ b → (((u : Table) → table_named name ts ≡ Some u → P u → P (changed_by c u)) → AllByRecursion P (change_table name c ts))
        → AllByRecursion P (if b then changed_by c t ∷ ts else t ∷ change_table name c ts)
    go true is rest = (keeps t (ap (λ (b : Bool). if b then Some t else table_named name ts) is) all.0, all.1)
    go false is rest = (all.0, rest (λ u found. keeps u (ap (λ (b : Bool). if b then Some t else table_named name ts) is ∙ found)))

length-change_table : (name : List ℕ) (c : Changes) (ts : List Table) → length (change_table name c ts) ≡ length ts
unfolding change_table
length-change_table name c [] = refl
length-change_table name c (t ∷ ts) = elim (is_named name t) as (λ b. length (if b then changed_by c t ∷ ts else t ∷ change_table name c ts) ≡ suc (length ts)) [
  | true ↦ refl
  | false ↦ ap suc (length-change_table name c ts)
]

-- a base is valid after changes of one table, where the limits have room and no key is broken
pub changed_is_valid : KeysHoldWhereNothingBreaks → (b : Base) (t : Table) (c : Changes) → IsValid b → table_named t.name b.tables ≡ Some t → IsValidTable t → AreOf t c → (changed_by c t).next ≤ most_ids
    → row_count (committed b (Changed ((t.name, c) ∷ []))) ≤ most_rows → b.commit < most_ids → key_broken (changed_by c t) ≡ None → IsValid (committed b (Changed ((t.name, c) ∷ [])))
changed_is_valid unbroken b t c valid there good of ids rows commits keys = record {
  names = order_changed t.name c b.tables valid.names;
  tables = All-from_recursion IsValidTable (change_table t.name c b.tables) (changed_all IsValidTable t.name c b.tables (recursion_from_All IsValidTable b.tables valid.tables)
      (λ u found kept. subst (λ (v : Table). IsValidTable (changed_by c v)) (same_some t u (sym there ∙ found)) (changed_table_valid unbroken t c good of ids keys)));
  few_tables = rw (length-change_table t.name c b.tables) valid.few_tables;
  few_rows = rows;
  few_commits = omega (arith, commits);
}
  where
    same_some : (x y : Table) → Some x ≡ Some y → x ≡ y
    same_some x y e = cc

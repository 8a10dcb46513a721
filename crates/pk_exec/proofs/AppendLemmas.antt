-- New rows put behind all others of their table.
use Rattle.std.proofs.Common.{◌≡◌, ℕ, ◌+◌, ◌≤◌, ◌<◌, Bool, true, false, not, ◌==◌, List, [], ◌∷◌, ◌++◌, All, length, nat_le, if◌then◌else◌, Some, None, Ok, Err, get_or, set, refl, ap, sym, ◌∙◌, subst, arith, append_assoc, length-append}
use Rattle.std.specs.Prelude.{Result, OnOk, OnErr}
use Rattle.std.specs.List.{find, flat_map}
use Rattle.std.specs.Option.{unwrap_or}
use Rattle.std.specs.List.Sorted.{IsStrictlySortedBy}
use Rattle.std.specs.Ordering.{nat_cmp}
use Rattle.std.proofs.lemmas.Bool.{leb-true, leb-false, eqb-true, eqb-false, ne_eqb}
use Rattle.std.proofs.lemmas.List.{set-get_or, map-append}
use Rattle.std.proofs.lemmas.List.Elements.{All-append}
use Rattle.pk_values.specs.declared.memory.Memory.{Memory}
use Rattle.pk_values.specs.declared.placed.Placed.{Placed}
use Rattle.pk_values.specs.declared.value.Value.{Value}
use Rattle.pk_schema.specs.Shapes.{Shape}
use Rattle.pk_schema.specs.Admits.{Admits}
use Rattle.pk_exec.specs.Edits.{inserted_into}
use Rattle.pk_exec.specs.Entries.{Entry, New}
use Rattle.pk_exec.specs.Bases.{base_rows, base_entry}
use Rattle.pk_exec.specs.Works.{most_changes, Edits, TableEdits, IsWork, edits_at, edit_count, is_for, place_in, stands_at, put_table, with_table, add_rows, size_elsewhere, work_size, SameElsewhere, edit_ids, no_edits_of}
use Rattle.pk_exec.specs.Seen.{entries_of, new_entries, Covers, Fits, AreAdmitted, is_part}
use Rattle.pk_exec.specs.Rows.{ids_of}
use Rattle.pk_exec.proofs.WorkLemmas.{put_is_work, size_parts, edits_put, same_elsewhere, above_all, all_above, tables_of}
use Rattle.pk_exec.proofs.PlaceLemmas.{put_set, stands_is, one_more}

-- the edits that stand at the place are the table's
pub edits_there : (w : Edits) (items : List TableEdits) (k place : ℕ) (b : Bool) (d : TableEdits) → record { tables = items } ≡ w
    → place ≡ place_in k w.tables → b ≡ stands_at k w.tables place → b ≡ true → (get_or items place d ≡ edits_at w k) × ((edits_at w k).table ≡ k)
unfolding edits_at
edits_there w items k place b d view at found there =
    let same : items ≡ w.tables = ap (λ (x : Edits). x.tables) view in
    let s = stands_is k w.tables d (ap (stands_at k w.tables) (sym at) ∙ sym found ∙ there) in
    let is : get_or items place d ≡ get_or w.tables (place_in k w.tables) d = ap (λ (ts : List TableEdits). get_or ts place d) same ∙ ap (λ (n : ℕ). get_or w.tables n d) at in
    rw s.0 (is, s.1)

count_more : (rows : List (List Value)) (t : TableEdits) → edit_count (add_rows rows t) ≡ edit_count t + length rows
count_more rows t = omega (arith, length-append t.added rows)

-- so many new rows leave a work
pub rows_fit : (w : Edits) (k : ℕ) (rows : List (List Value)) → IsWork w → work_size w + length rows ≤ most_changes → size_elsewhere w k + edit_count (add_rows rows (edits_at w k)) ≤ most_changes
rows_fit w k rows is few = omega (arith, few, size_parts w k is, count_more rows (edits_at w k))

-- the tables after the rows were put into the one at the place, or weren't
pub appended_work :
    (w : Edits) (items : List TableEdits) (k place : ℕ) (b : Bool) (x new : TableEdits) (rows : List (List Value)) (r : Result (Unit {0}) Memory)
    → record { tables = items } ≡ w → IsWork w → place ≡ place_in k w.tables → b ≡ stands_at k w.tables place → b ≡ true → x ≡ get_or items place x
    → OnOk r (new ≡ add_rows rows x) → OnErr r (new ≡ x) → work_size w + length rows ≤ most_changes → IsWork (record { tables = set items place new })
appended_work w items k place b x new rows (Ok u) view is at found there read ok err few =
    let e = edits_there w items k place b x view at found there in
    let t = add_rows rows (edits_at w k) in
    let put : set items place new ≡ put_table t w.tables =
    ap (set items place) (ok ∙ ap (add_rows rows) (read ∙ e.0)) ∙ put_set t w items k place b view (sym e.1) at found there in
    subst (λ (ts : List TableEdits). IsWork (record { tables = ts })) (sym put)
    (put_is_work t w is (subst (λ (n : ℕ). size_elsewhere w n + edit_count t ≤ most_changes) (sym e.1) (rows_fit w k rows is few)))
appended_work w items k place b x new rows (Err m) view is at found there read ok err few =
    let same : set items place new ≡ items = ap (set items place) (err ∙ read) ∙ set-get_or items place x in
    subst (λ (ts : List TableEdits). IsWork (record { tables = ts })) (sym same) (subst IsWork (sym view) is)

pub appended_tables :
    (w : Edits) (items : List TableEdits) (k place : ℕ) (b : Bool) (x new : TableEdits) (rows : List (List Value)) (r : Result (Unit {0}) Memory)
    → record { tables = items } ≡ w → place ≡ place_in k w.tables → b ≡ stands_at k w.tables place → b ≡ true → x ≡ get_or items place x
    → OnOk r (new ≡ add_rows rows x) → OnOk r (record { tables = set items place new } ≡ with_table (add_rows rows (edits_at w k)) w)
appended_tables w items k place b x new rows (Ok u) view at found there read ok =
    let e = edits_there w items k place b x view at found there in
    let t = add_rows rows (edits_at w k) in
    ap (λ (ts : List TableEdits). record { tables = ts })
    (ap (set items place) (ok ∙ ap (add_rows rows) (read ∙ e.0)) ∙ put_set t w items k place b view (sym e.1) at found there)
appended_tables w items k place b x new rows (Err m) view at found there read ok = tt

-- ---- a table that has no edits yet

absent_in : (k : ℕ) (ts : List TableEdits) → IsStrictlySortedBy nat_cmp (tables_of ts) → stands_at k ts (place_in k ts) ≡ false → find (is_for k) ts ≡ None
unfolding IsStrictlySortedBy
absent_in k [] rise at = refl
absent_in k (t ∷ ts) rise at = step (nat_le k t.table) refl at (absent_in k ts rise.1)
  where
    by_same : (b : Bool) → (t.table == k) ≡ b → k ≤ t.table → b ≡ false → (if b then Some t else find (is_for k) ts) ≡ None
    by_same true same le at = absurd (cc)
    by_same false differ le at =
        let less : k < t.table = omega (arith, le, eqb-false t.table k differ) in
        (above_all k ts (all_above k t.table (tables_of ts) less rise.0)).1

    step : (b : Bool) → nat_le k t.table ≡ b → stands_at k (t ∷ ts) (if not b then 1 + place_in k ts else 0) ≡ false
        → (stands_at k ts (place_in k ts) ≡ false → find (is_for k) ts ≡ None) → find (is_for k) (t ∷ ts) ≡ None
    step true le at deeper = by_same (t.table == k) refl (leb-true k t.table le) at
    step false le at deeper =
        rw (ne_eqb t.table k (λ e. omega (arith, e, leb-false k t.table le)))
        (deeper (subst (λ (n : ℕ). stands_at k (t ∷ ts) n ≡ false) (one_more (place_in k ts)) at))

pub edits_absent : (w : Edits) (k place : ℕ) (b : Bool) → IsWork w → place ≡ place_in k w.tables → b ≡ stands_at k w.tables place → b ≡ false
    → edits_at w k ≡ no_edits_of k
unfolding edits_at
edits_absent w k place b is at found there =
    rw (absent_in k w.tables is.ascend (ap (stands_at k w.tables) (sym at) ∙ sym found ∙ there)) refl

-- ---- what an INSERT leaves

settled : (w new : Edits) (k : ℕ) (rows : List (List Value)) → new ≡ with_table (add_rows rows (edits_at w k)) w → (edits_at w k).table ≡ k → edits_at new k ≡ add_rows rows (edits_at w k)
settled w new k rows is table =
    ap (λ (x : Edits). edits_at x k) is
    ∙ ap (edits_at (with_table (add_rows rows (edits_at w k)) w)) (sym table)
    ∙ edits_put (add_rows rows (edits_at w k)) w

table_is : (w : Edits) (k : ℕ) → (edits_at w k).table ≡ k
unfolding edits_at
table_is w k = by_list w.tables
  where
    by_list : (ts : List TableEdits) → (unwrap_or (find (is_for k) ts) (no_edits_of k)).table ≡ k
    by_list [] = refl
    by_list (t ∷ ts) = by_same (t.table == k) refl (by_list ts)
      where
        by_same : (b : Bool) → (t.table == k) ≡ b → (unwrap_or (find (is_for k) ts) (no_edits_of k)).table ≡ k
            → (unwrap_or (if b then Some t else find (is_for k) ts) (no_edits_of k)).table ≡ k
        by_same true same rest = eqb-true t.table k same
        by_same false differ rest = rest

pub added_others : (w new : Edits) (k : ℕ) (rows : List (List Value)) → new ≡ with_table (add_rows rows (edits_at w k)) w → SameElsewhere k w new
added_others w new k rows is =
    subst (λ (n : ℕ). SameElsewhere n w new) (table_is w k) (subst (SameElsewhere (edits_at w k).table w) (sym is) (same_elsewhere (add_rows rows (edits_at w k)) w))

pub added_seen : (w new : Edits) (k : ℕ) (rows : List (List Value)) (base : List Placed) → new ≡ with_table (add_rows rows (edits_at w k)) w
    → entries_of new k base ≡ inserted_into rows (entries_of w k base)
unfolding entries_of
added_seen w new k rows base is =
    let t = edits_at w k in
    ap (λ (x : TableEdits). flat_map base_entry (base_rows x.edited base) ++ new_entries x.added) (settled w new k rows is (table_is w k))
    ∙ ap (λ (xs : List Entry). flat_map base_entry (base_rows t.edited base) ++ xs) (map-append (λ (row : List Value). New row) t.added rows)
    ∙ sym (append_assoc (flat_map base_entry (base_rows t.edited base)) (new_entries t.added) (new_entries rows))

pub added_covers : (w new : Edits) (k : ℕ) (rows : List (List Value)) (base : List Placed) → new ≡ with_table (add_rows rows (edits_at w k)) w
    → Covers w k base → Covers new k base
added_covers w new k rows base is covers =
    subst (λ (x : TableEdits). is_part (edit_ids x.edited) (ids_of base) ≡ true) (sym (settled w new k rows is (table_is w k))) covers

pub added_fits : (w new : Edits) (k : ℕ) (rows : List (List Value)) (s : Shape) → new ≡ with_table (add_rows rows (edits_at w k)) w
    → Fits w s k → All (Admits s) rows → Fits new s k
added_fits w new k rows s is fits all =
    subst (AreAdmitted s) (sym (settled w new k rows is (table_is w k))) (fits.0, All-append (Admits s) (edits_at w k).added rows fits.1 all)

-- ---- the edits of a table are taken

-- the tables after those of the one at the place were taken
emptied_tables :
    (w : Edits) (items : List TableEdits) (k place : ℕ) (b : Bool) → record { tables = items } ≡ w → place ≡ place_in k w.tables
    → b ≡ stands_at k w.tables place → b ≡ true → record { tables = set items place (no_edits_of k) } ≡ with_table (no_edits_of k) w
emptied_tables w items k place b view at found there =
    ap (λ (ts : List TableEdits). record { tables = ts }) (put_set (no_edits_of k) w items k place b view refl at found there)

pub emptied_work :
    (w : Edits) (items : List TableEdits) (k place : ℕ) (b : Bool) (x : TableEdits) → x ≡ no_edits_of k → record { tables = items } ≡ w → IsWork w
    → place ≡ place_in k w.tables → b ≡ stands_at k w.tables place → b ≡ true → IsWork (record { tables = set items place x })
emptied_work w items k place b x none view is at found there =
    rw none
    (subst IsWork (sym (emptied_tables w items k place b view at found there))
    (put_is_work (no_edits_of k) w is (omega (arith, is.most, size_parts w k is))))

-- the table has none then, and each other has its own
pub emptied_edits :
    (w new : Edits) (items : List TableEdits) (k place : ℕ) (b : Bool) (x : TableEdits) → x ≡ no_edits_of k → record { tables = items } ≡ w
    → place ≡ place_in k w.tables → b ≡ stands_at k w.tables place → b ≡ true → new ≡ record { tables = set items place x }
    → (edits_at new k ≡ no_edits_of k) × SameElsewhere k w new
emptied_edits w new items k place b x none view at found there is =
    let put : new ≡ with_table (no_edits_of k) w =
    is ∙ ap (λ (t : TableEdits). record { tables = set items place t }) none ∙ emptied_tables w items k place b view at found there in
    (ap (λ (e : Edits). edits_at e k) put ∙ edits_put (no_edits_of k) w, subst (SameElsewhere k w) (sym put) (same_elsewhere (no_edits_of k) w))

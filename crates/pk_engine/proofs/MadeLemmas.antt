-- What INSERT, UPDATE and DELETE make of the rows of a table.
use Rattle.std.proofs.Common.{◌≡◌, ◌≢◌, ℕ, zero, suc, ◌+◌, ◌<◌, Bool, true, false, not, List, [], ◌∷◌, ◌++◌, length, map, Some, if◌then◌else◌, refl, sym, subst, ap, ◌∙◌, arith}
use Rattle.std.specs.Prelude.{filter, cond, slice_set}
use Rattle.std.specs.List.{AllByRecursion}
use Rattle.std.proofs.lemmas.List.{length-map}
use Rattle.std.proofs.lemmas.List.Elements.{recursion_from_All, All-from_recursion}
use Rattle.std.proofs.lemmas.Slice.Eq.{bytes_eq-Decides}
use Rattle.pk_values.specs.declared.changes.Changes.{Changes}
use Rattle.pk_values.specs.declared.placed.Placed.{Placed}
use Rattle.pk_values.specs.declared.value.Value.{Value}
use Rattle.pk_values.specs.Values.{value_at}
use Rattle.pk_syntax.specs.declared.declaration.ColumnDecl.{ColumnDecl}
use Rattle.pk_syntax.specs.declared.edit.Insert.{Insert}
use Rattle.pk_syntax.specs.declared.edit.Update.{Update}
use Rattle.pk_syntax.specs.declared.edit.Delete.{Delete}
use Rattle.pk_report.specs.declared.reply.Reply.{Reply}
use Rattle.pk_report.specs.declared.reply.Reply.TheVariants as replies
use Rattle.pk_bind.specs.declared.edit.Edit.{Edit}
use Rattle.pk_bind.specs.declared.edit.SetTo.{SetTo}
use Rattle.pk_bind.specs.Conditions.{cond_asked}
use Rattle.pk_bind.specs.Fitting.{with_sets}
use Rattle.pk_bind.specs.Insert.{new_rows, made_row, sources, targets}
use Rattle.pk_bind.specs.Update.{edit_of}
use Rattle.pk_exec.specs.Entries.{Entry, New, row_in, with_row, kept_entry}
use Rattle.pk_exec.specs.Edits.{takes, taken, updated_entry}
use Rattle.pk_exec.specs.Changes.{added_rows, placed_from}
use Rattle.pk_exec.specs.Rows.{ids_of}
use Rattle.pk_guard.specs.Changed.{put_rows, stays}
use Rattle.pk_engine.specs.Base.{Table, is_named, table_named, change_table, changed_by}
use Rattle.pk_engine.specs.State.{State, Changed, current, with_commit}
use Rattle.pk_engine.specs.Refusing.{Step, table_of}
use Rattle.pk_engine.specs.Edits.{entries_in, changes_in, is_unchanged, with_changes, edited, insert_refusals, inserted, insert_entries, update_refusals, updated_rows, update_entries, delete_refusals, deleted_rows, delete_entries}
use Rattle.pk_engine.specs.Entries.{Follow, placed}
use Rattle.pk_engine.specs.Valid.{IsValid}
use Rattle.pk_engine.specs.Answer.{answer}
use Rattle.pk_engine.specs.Laws.{EntriesAreCommitted, HasAdded, InsertsAddRows, set_placed, HasSet, UpdatesSetRows, OtherColumnsStay, SetColumnsAreSet, HasTaken, DeletesLeaveTheRest}
use Rattle.pk_engine.proofs.EntryLemmas.{follow_kept, follow_added, follow_reset, follow_chosen}
use Rattle.pk_engine.proofs.KeptLemmas.{found_valid, found_name, found_named}
use Rattle.pk_engine.proofs.OtherLemmas.{about_says, tables_more, named}
use Rattle.pk_engine.proofs.PutLemmas.{entries_committed}
use Rattle.pk_engine.proofs.RowLemmas.{changed_is_same, rises}

-- ---- entries committed

found_changed : (name : List ℕ) (c : Changes) (ts : List Table) (t : Table) → table_named name ts ≡ Some t → table_named name (change_table name c ts) ≡ Some (changed_by c t)
unfolding table_named change_table
found_changed name c [] t found = absurd cc
found_changed name c (u ∷ us) t found = go (is_named name u) refl found (found_changed name c us t)
  where
    go : (b : Bool) → is_named name u ≡ b → if b then Some u else table_named name us ≡ Some t
        → (table_named name us ≡ Some t → table_named name (change_table name c us) ≡ Some (changed_by c t))
        → table_named name (if b then changed_by c u ∷ us else u ∷ change_table name c us) ≡ Some (changed_by c t)
    go true is found rest =
        let same : u ≡ t = cc in
        let still : is_named name (changed_by c u) ≡ true = (bytes_eq-Decides (changed_by c u).name name).1 ((changed_is_same c u).0 ∙ named name u is) in
        ap (λ b. if b then Some (changed_by c u) else table_named name us) still ∙ ap (λ (v : Table). Some (changed_by c v)) same
    go false is found rest = ap (λ b. if b then Some u else table_named name (change_table name c us)) is ∙ rest found

none_gone : (ps : List Placed) → filter (stays []) ps ≡ ps
none_gone [] = refl
none_gone (p ∷ ps) = ap (λ rest. p ∷ rest) (none_gone ps)

-- a table without changes is as it was
pub unchanged_by : (c : Changes) (t : Table) → is_unchanged c ≡ true → changed_by c t ≡ t
unfolding changed_by put_rows
unchanged_by c t same = go c.gone c.put same
  where
    no_more : (n : ℕ) → n + 0 ≡ n
    no_more n = omega arith

    go : (gone : List ℕ) (put : List Placed) → is_unchanged (record { gone = gone; put = put }) ≡ true → changed_by (record { gone = gone; put = put }) t ≡ t
    go [] [] same =
        ap (λ (n : ℕ). record t { next = n; rows = filter (stays []) t.rows }) (no_more t.next)
        ∙ ap (λ (rows : List Placed). record t { rows = rows }) (none_gone t.rows)
    go [] (p ∷ ps) same = absurd cc
    go (k ∷ ks) put same = absurd cc

changes_there : (st : State) (t : Table) (c : Changes) → table_of st t.name ≡ Some t → table_of (with_changes st t c) t.name ≡ Some (changed_by c t)
changes_there st t c found = go (is_unchanged c) refl
  where
    go : (b : Bool) → is_unchanged c ≡ b → table_of (if b then st else with_commit st (Changed ((t.name, c) ∷ []))) t.name ≡ Some (changed_by c t)
    go true is = found ∙ ap (λ (u : Table). Some u) (sym (unchanged_by c t is))
    go false is = tables_more st (Changed ((t.name, c) ∷ [])) t.name ∙ found_changed t.name c (current st).tables t found

pub entries_stand : EntriesAreCommitted
entries_stand st name t es valid found follow =
    let there = changes_there st t (changes_in t es) (found_named st name t found) in
    let good = found_valid st name t valid found in
    subst (λ n. table_of (with_changes st t (changes_in t es)) n ≡ Some (record t { next = t.next + length (added_rows es); rows = placed t.next es }))
    (found_name st name t found)
    (there ∙ ap (λ (u : Table). Some u) (entries_committed t es (rises t good) follow))

-- ---- what a statement makes, by its reply

reply_says : (st : State) (t : Table) (es : List Entry) (said reply : Reply) (step : Step) → step ≡ edited st t es said → step.reply ≡ reply → said ≡ reply
reply_says st t es said reply step is replied = sym (ap (λ (s : Step). s.reply) is) ∙ replied

table_says : (st : State) (name : List ℕ) (t new : Table) (es : List Entry) (said : Reply) (step : Step) → IsValid (current st) → table_of st name ≡ Some t → Follow t.rows es
    → step ≡ edited st t es said → record t { next = t.next + length (added_rows es); rows = placed t.next es } ≡ new → table_of step.next name ≡ Some new
table_says st name t new es said step valid found follow is made =
    ap (λ (s : Step). table_of s.next name) is ∙ entries_stand st name t es valid found follow ∙ ap (λ (u : Table). Some u) made

-- the table of this name before a step, and the one after it, stand so to each other
abbrev Turns : State → Step → List ℕ → (Table → Table → Type 0) → Type 0
Turns st step name R = (old : Table) × (new : Table) × (table_of st name ≡ Some old) × (table_of step.next name ≡ Some new) × R old new

no_more : (t : Table) (n : ℕ) (rows new : List Placed) → n ≡ 0 → rows ≡ new → record t { next = t.next + n; rows = rows } ≡ record t { rows = new }
no_more t n rows new none same =
    ap (λ (k : ℕ). record t { next = t.next + k; rows = rows }) none ∙ ap (λ (k : ℕ). record t { next = k; rows = rows }) (sum_zero t.next) ∙ ap (λ (rs : List Placed). record t { rows = rs }) same
  where
    sum_zero : (n : ℕ) → n + 0 ≡ n
    sum_zero n = omega arith

-- ---- INSERT

rows_added : (rows : List Placed) (news : List (List Value)) (next : ℕ) → placed next (map kept_entry rows ++ map (λ row. New row) news) ≡ rows ++ placed_from next news
rows_added [] [] next = refl
rows_added [] (row ∷ news) next = ap (λ (rest : List Placed). record { id = next; row = row } ∷ rest) (rows_added [] news (next + 1))
rows_added (p ∷ ps) news next = ap (λ (rest : List Placed). p ∷ rest) (rows_added ps news next)

new_are : (rows : List Placed) (news : List (List Value)) → added_rows (map kept_entry rows ++ map (λ row. New row) news) ≡ news
new_are [] [] = refl
new_are [] (row ∷ news) = ap (λ (rest : List (List Value)). row ∷ rest) (new_are [] news)
new_are (p ∷ ps) news = new_are ps news

counted_inserted : (m n : ℕ) → replies.Inserted m ≡ replies.Inserted n → m ≡ n
counted_inserted m n e = cc

-- as many rows as tuples
rows_counted : (columns : List ColumnDecl) (i : Insert) → length (new_rows columns i) ≡ length i.rows
unfolding new_rows
rows_counted columns i = length-map i.rows (made_row (sources columns (targets columns i.columns)))

insert_turns : (st : State) (i : Insert) (n : ℕ) (t : Table) (step : Step) → IsValid (current st) → table_of st i.table ≡ Some t → step ≡ inserted st t i → step.reply ≡ replies.Inserted n
    → (n ≡ length i.rows) × Turns st step i.table (λ old new. HasAdded (new_rows old.shape.columns i) n old new)
insert_turns st i n t step valid found is replied =
    let rows = new_rows t.shape.columns i in
    let es = insert_entries t i in
    let said = replies.Inserted (length i.rows) in
    let count : n ≡ length i.rows = sym (counted_inserted (length i.rows) n (reply_says st t es said (replies.Inserted n) step is replied)) in
    let made : n ≡ length rows = count ∙ sym (rows_counted t.shape.columns i) in
    let more : length (added_rows es) ≡ n = ap length (new_are t.rows rows) ∙ sym made in
    let new : Table = record t { next = t.next + n; rows = t.rows ++ placed_from t.next rows } in (
      count,
      (
        t,
        new,
        found,
        table_says st i.table t new es said step valid found (follow_added rows t.rows (entries_in t) (follow_kept t.rows)) is
            (ap (λ (k : ℕ). record t { next = t.next + k; rows = placed t.next es }) more ∙ ap (λ (rs : List Placed). record t { next = t.next + n; rows = rs }) (rows_added t.rows rows t.next)),
        record { count = made; table = refl },
      ),
    )

pub inserts_add : InsertsAddRows
unfolding answer
inserts_add st i n valid is =
    let w = about_says st i.table (λ t. insert_refusals st t i) (λ t. inserted st t i) (replies.Inserted n) (λ r e. cc) is in
    insert_turns st i n w.0 _ valid w.1 w.3 is

-- ---- UPDATE

set_one : (e : Edit) (p : Placed) (next : ℕ) (es : List Entry) → placed next (updated_entry e (kept_entry p) ∷ es) ≡ set_placed e p ∷ placed next es
set_one e p next es = elim (takes e.cond p.row) as (λ b. placed next ((if b then with_row (with_sets e.sets p.row) (kept_entry p) else kept_entry p) ∷ es)
    ≡ (if b then record p { row = with_sets e.sets p.row } else p) ∷ placed next es) [
      | true ↦ refl
      | false ↦ refl
    ]

rows_set : (e : Edit) (rows : List Placed) (next : ℕ) → placed next (map (updated_entry e) (map kept_entry rows)) ≡ map (set_placed e) rows
rows_set e [] next = refl
rows_set e (p ∷ ps) next = set_one e p next (map (updated_entry e) (map kept_entry ps)) ∙ ap (λ (rest : List Placed). set_placed e p ∷ rest) (rows_set e ps next)

none_new_set : (e : Edit) (rows : List Placed) → length (added_rows (map (updated_entry e) (map kept_entry rows))) ≡ 0
none_new_set e [] = refl
none_new_set e (p ∷ ps) = elim (takes e.cond p.row) as (λ b. length (added_rows ((if b then with_row (with_sets e.sets p.row) (kept_entry p) else kept_entry p) ∷ map (updated_entry e) (map kept_entry ps))) ≡ 0) [
  | true ↦ none_new_set e ps
  | false ↦ none_new_set e ps
]

one_id : (b : Bool) (p : Placed) (row : List Value) → (if b then record p { row = row } else p).id ≡ p.id
one_id true p row = refl
one_id false p row = refl

ids_kept : (e : Edit) (rows : List Placed) → ids_of (map (set_placed e) rows) ≡ ids_of rows
ids_kept e [] = refl
ids_kept e (p ∷ ps) =
    ap (λ (k : ℕ). k ∷ ids_of (map (set_placed e) ps)) (one_id (takes e.cond p.row) p (with_sets e.sets p.row)) ∙ ap (λ (ks : List ℕ). p.id ∷ ks) (ids_kept e ps)

counted_taken : (meets : List Value → Bool) (rows : List Placed) → length (filter (λ x. meets (row_in x)) (map kept_entry rows)) ≡ length (filter (λ (p : Placed). meets p.row) rows)
counted_taken meets [] = refl
counted_taken meets (p ∷ ps) = go (meets p.row) (counted_taken meets ps)
  where
    go : (b : Bool) → length (filter (λ x. meets (row_in x)) (map kept_entry ps)) ≡ length (filter (λ (p : Placed). meets p.row) ps)
        → length (cond b (kept_entry p ∷ filter (λ x. meets (row_in x)) (map kept_entry ps)) (filter (λ x. meets (row_in x)) (map kept_entry ps)))
        ≡ length (cond b (p ∷ filter (λ (p : Placed). meets p.row) ps) (filter (λ (p : Placed). meets p.row) ps))
    go true rest = ap suc rest
    go false rest = rest

counted_updated : (m n : ℕ) → replies.Updated m ≡ replies.Updated n → m ≡ n
counted_updated m n e = cc

update_turns : (st : State) (u : Update) (n : ℕ) (t : Table) (step : Step) → IsValid (current st) → table_of st u.table ≡ Some t → step ≡ updated_rows st t u → step.reply ≡ replies.Updated n
    → Turns st step u.table (λ old new. HasSet (edit_of old.shape.columns u) n old new)
unfolding edit_of
update_turns st u n t step valid found is replied =
    let e = edit_of t.shape.columns u in
    let es = update_entries t u in
    let count = length (taken (cond_asked t.shape.columns u.cond) (entries_in t)) in
    let new : Table = record t { rows = map (set_placed e) t.rows } in (
      t,
      new,
      found,
      table_says st u.table t new es (replies.Updated count) step valid found
          (follow_reset (λ x. takes e.cond (row_in x)) (λ x. with_sets e.sets (row_in x)) t.rows (entries_in t) (follow_kept t.rows)) is
          (no_more t (length (added_rows es)) (placed t.next es) (map (set_placed e) t.rows) (none_new_set e t.rows) (rows_set e t.rows t.next)),
      record {
        count = sym (counted_updated count n (reply_says st t es (replies.Updated count) (replies.Updated n) step is replied)) ∙ counted_taken (takes e.cond) t.rows;
        table = refl;
        ids = ids_kept e t.rows;
      },
    )

pub updates_set : UpdatesSetRows
unfolding answer
updates_set st u n valid is =
    let w = about_says st u.table (λ t. update_refusals st t u) (λ t. updated_rows st t u) (replies.Updated n) (λ r e. cc) is in
    update_turns st u n w.0 _ valid w.1 w.3 is

-- ---- the columns of a row that is set

set_other : (row : List Value) (i c : ℕ) (v : Value) → i ≢ c → value_at (slice_set row i v) c ≡ value_at row c
set_other [] i c v other = refl
set_other (w ∷ ws) zero zero v other = absurd (other refl)
set_other (w ∷ ws) zero (suc c) v other = refl
set_other (w ∷ ws) (suc i) zero v other = refl
set_other (w ∷ ws) (suc i) (suc c) v other = set_other ws i c v (λ e. other (ap suc e))

others_kept : (sets : List SetTo) (row : List Value) (c : ℕ) → AllByRecursion (λ (s : SetTo). s.column ≢ c) sets → value_at (with_sets sets row) c ≡ value_at row c
others_kept [] row c all = refl
others_kept (s ∷ ss) row c all = others_kept ss (slice_set row s.column s.value) c all.1 ∙ set_other row s.column c s.value all.0

pub other_columns : OtherColumnsStay
other_columns sets row c all = others_kept sets row c (recursion_from_All (λ (s : SetTo). s.column ≢ c) sets all)

set_here : (row : List Value) (i : ℕ) (v : Value) → i < length row → value_at (slice_set row i v) i ≡ v
set_here [] i v within = absurd (omega (arith, within))
set_here (w ∷ ws) zero v within = refl
set_here (w ∷ ws) (suc i) v within = set_here ws i v (omega (arith, within))

set_long : (row : List Value) (i : ℕ) (v : Value) → length (slice_set row i v) ≡ length row
set_long [] i v = refl
set_long (w ∷ ws) zero v = refl
set_long (w ∷ ws) (suc i) v = ap suc (set_long ws i v)

pub set_columns : SetColumnsAreSet
set_columns [] behind s row within all = other_columns behind (slice_set row s.column s.value) s.column all ∙ set_here row s.column s.value within
set_columns (b ∷ before) behind s row within all =
    let long = set_long row b.column b.value in
    set_columns before behind s (slice_set row b.column b.value) (omega (arith, long, within)) all

-- ---- DELETE

rows_left : (meets : List Value → Bool) (rows : List Placed) (next : ℕ) → placed next (filter (λ x. not (meets (row_in x))) (map kept_entry rows)) ≡ filter (λ (p : Placed). not (meets p.row)) rows
rows_left meets [] next = refl
rows_left meets (p ∷ ps) next = go (not (meets p.row)) (rows_left meets ps next)
  where
    go : (b : Bool) → placed next (filter (λ x. not (meets (row_in x))) (map kept_entry ps)) ≡ filter (λ (p : Placed). not (meets p.row)) ps
        → placed next (cond b (kept_entry p ∷ filter (λ x. not (meets (row_in x))) (map kept_entry ps)) (filter (λ x. not (meets (row_in x))) (map kept_entry ps)))
        ≡ cond b (p ∷ filter (λ (p : Placed). not (meets p.row)) ps) (filter (λ (p : Placed). not (meets p.row)) ps)
    go true rest = ap (λ (ps : List Placed). p ∷ ps) rest
    go false rest = rest

none_new_left : (meets : List Value → Bool) (rows : List Placed) → length (added_rows (filter (λ x. not (meets (row_in x))) (map kept_entry rows))) ≡ 0
none_new_left meets [] = refl
none_new_left meets (p ∷ ps) = go (not (meets p.row)) (none_new_left meets ps)
  where
    go : (b : Bool) → length (added_rows (filter (λ x. not (meets (row_in x))) (map kept_entry ps))) ≡ 0
        → length (added_rows (cond b (kept_entry p ∷ filter (λ x. not (meets (row_in x))) (map kept_entry ps)) (filter (λ x. not (meets (row_in x))) (map kept_entry ps)))) ≡ 0
    go true rest = rest
    go false rest = rest

none_met : (meets : List Value → Bool) (rows : List Placed) → AllByRecursion (λ (p : Placed). meets p.row ≡ false) (filter (λ (p : Placed). not (meets p.row)) rows)
none_met meets [] = tt
none_met meets (p ∷ ps) = go (meets p.row) refl (none_met meets ps)
  where
    go : (b : Bool) → meets p.row ≡ b → AllByRecursion (λ (p : Placed). meets p.row ≡ false) (filter (λ (p : Placed). not (meets p.row)) ps)
        → AllByRecursion (λ (p : Placed). meets p.row ≡ false) (cond (not b) (p ∷ filter (λ (p : Placed). not (meets p.row)) ps) (filter (λ (p : Placed). not (meets p.row)) ps))
    go true is rest = rest
    go false is rest = (is, rest)

counted_deleted : (m n : ℕ) → replies.Deleted m ≡ replies.Deleted n → m ≡ n
counted_deleted m n e = cc

delete_turns : (st : State) (d : Delete) (n : ℕ) (t : Table) (step : Step) → IsValid (current st) → table_of st d.table ≡ Some t → step ≡ deleted_rows st t d → step.reply ≡ replies.Deleted n
    → Turns st step d.table (λ old new. HasTaken (takes (cond_asked old.shape.columns d.cond)) n old new)
delete_turns st d n t step valid found is replied =
    let meets = takes (cond_asked t.shape.columns d.cond) in
    let es = delete_entries t d in
    let count = length (taken (cond_asked t.shape.columns d.cond) (entries_in t)) in
    let left = filter (λ (p : Placed). not (meets p.row)) t.rows in
    let new : Table = record t { rows = left } in (
      t,
      new,
      found,
      table_says st d.table t new es (replies.Deleted count) step valid found (follow_chosen (λ x. not (meets (row_in x))) t.rows (entries_in t) (follow_kept t.rows)) is
          (no_more t (length (added_rows es)) (placed t.next es) left (none_new_left meets t.rows) (rows_left meets t.rows t.next)),
      record {
        count = sym (counted_deleted count n (reply_says st t es (replies.Deleted count) (replies.Deleted n) step is replied)) ∙ counted_taken meets t.rows;
        table = refl;
        left = All-from_recursion (λ (p : Placed). meets p.row ≡ false) left (none_met meets t.rows);
      },
    )

pub deletes_leave : DeletesLeaveTheRest
unfolding answer
deletes_leave st d n valid is =
    let w = about_says st d.table (λ t. delete_refusals st t d) (λ t. deleted_rows st t d) (replies.Deleted n) (λ r e. cc) is in
    delete_turns st d n w.0 _ valid w.1 w.3 is

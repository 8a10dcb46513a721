-- What UPDATE and DELETE answer and leave, from what a change does.
use Rattle.std.proofs.Common.{◌≡◌, ℕ, ◌+◌, List, [], ◌∷◌, ◌++◌, length, map, Option, Some, None, Ok, Err, refl, ap, sym, ◌∙◌}
use Rattle.std.specs.Prelude.{Result, OnOk}
use Rattle.std.specs.List.{flat_map}
use Rattle.pk_values.specs.declared.placed.Placed.{Placed}
use Rattle.pk_values.specs.declared.refusal.Refusal.{Refusal}
use Rattle.pk_values.specs.Refusals.{first_some, or_else}
use Rattle.pk_logic.specs.declared.condition.Cond.{Cond}
use Rattle.pk_bind.specs.declared.edit.Edit.{Edit}
use Rattle.pk_exec.specs.declared.base.BaseRow.{BaseRow}
use Rattle.pk_exec.specs.declared.change.Change.{Change}
use Rattle.pk_exec.specs.declared.exec_err.ExecErr.{ExecErr}
use Rattle.pk_exec.specs.declared.exec_err.ExecErr.TheVariants as exec_errs
use Rattle.pk_exec.specs.Answers.{Answers, IsCause}
use Rattle.pk_exec.specs.Rows.{AscendFrom}
use Rattle.pk_exec.specs.Bases.{base_rows, base_entry}
use Rattle.pk_exec.specs.Changes.{changed_count}
use Rattle.pk_exec.specs.Edits.{taken, updated, deleted}
use Rattle.pk_exec.specs.Fates.{edit_change, removal}
use Rattle.pk_exec.specs.Drafts.{changed_base, changed_edits, changed_added, base_refusal, added_refusal}
use Rattle.pk_exec.specs.Refusals.{many_changes, long_update}
use Rattle.pk_exec.specs.Settling.{changed_table, change_refusals, change_taken, settling_refusal, IsChanged}
use Rattle.pk_exec.specs.Works.{Edits, TableEdits, edits_at, size_elsewhere, with_table}
use Rattle.pk_exec.specs.Seen.{entries_of, new_entries}
use Rattle.pk_exec.proofs.CountLemmas.{changed_bases, changed_counted}
use Rattle.pk_exec.proofs.EntryLemmas.{entries_updated, entries_long, entries_taken, entries_deleted, removal_free_base, removal_free_added}
use Rattle.pk_exec.proofs.WorkLemmas.{edits_put}
use Rattle.pk_values.proofs.RefusalLemmas.{first_behind}

-- ---- lists of refusals

joined : (a b x y : Option Refusal) → (a ≡ None → b ≡ None → x ≡ y) → first_some (a ∷ b ∷ x ∷ []) ≡ first_some (or_else a b ∷ y ∷ [])
joined None None x y same = ap (λ (o : Option Refusal). first_some (o ∷ [])) (same refl refl)
joined None (Some r) x y same = refl
joined (Some r) b x y same = refl

none_of_three : (a b x : Option Refusal) → first_some (a ∷ b ∷ x ∷ []) ≡ None → (a ≡ None) × (b ≡ None)
none_of_three None None x none = (refl, refl)
none_of_three None (Some r) x none = absurd (cc)
none_of_three (Some r) b x none = absurd (cc)

-- ---- what is answered

same_cause : (xs ys : List (Option Refusal)) (e : ExecErr) → first_some xs ≡ first_some ys → IsCause xs e → IsCause ys e
same_cause xs ys (exec_errs.Refused r) same is = sym same ∙ is
same_cause xs ys exec_errs.Disk same is = tt
same_cause xs ys exec_errs.Changed same is = tt
same_cause xs ys exec_errs.Memory same is = tt

answered : (c : Change) (table : ℕ) (rows : List Placed) (old new : Edits) (r : Result ℕ ExecErr) (refusals : List (Option Refusal)) (n : ℕ)
    → IsChanged c table rows old new r → first_some (change_refusals c table rows old) ≡ first_some refusals → n ≡ change_taken c table rows old
    → Answers refusals n r
answered c table rows old new (Ok m) refusals n is same count = (sym same ∙ is.0, is.1 ∙ sym count)
answered c table rows old new (Err e) refusals n is same count = same_cause (change_refusals c table rows old) refusals e same is

-- ---- what is seen

seen_after : (c : Change) (table : ℕ) (rows : List Placed) (old new : Edits) → AscendFrom 1 rows → new ≡ with_table (changed_table c table rows old) old
    → entries_of new table rows
    ≡ flat_map base_entry (map (changed_base c) (base_rows (edits_at old table).edited rows)) ++ new_entries (changed_added c (edits_at old table).added)
unfolding entries_of
seen_after c table rows old new up is =
    let at : edits_at new table ≡ changed_table c table rows old = ap (λ (w : Edits). edits_at w table) is ∙ edits_put (changed_table c table rows old) old in
    ap (λ (t : TableEdits). flat_map base_entry (base_rows t.edited rows) ++ new_entries t.added) at
    ∙ ap (λ (bs : List BaseRow). flat_map base_entry bs ++ new_entries (changed_added c (edits_at old table).added)) (changed_bases c (edits_at old table).edited rows up)

-- ---- UPDATE

update_same : (e : Edit) (table : ℕ) (rows : List Placed) (w : Edits) (before : List (Option Refusal)) → AscendFrom 1 rows → first_some before ≡ None
    → first_some (change_refusals (edit_change e) table rows w)
    ≡ first_some (before ++ long_update e (entries_of w table rows) ∷ many_changes (size_elsewhere w table + changed_count rows (updated e (entries_of w table rows))) ∷ [])
unfolding entries_of
update_same e table rows w before up none =
    let c = edit_change e in
    let t = edits_at w table in
    let bs = base_rows t.edited rows in
    joined (base_refusal c bs) (added_refusal c t.added) (settling_refusal w (changed_table c table rows w))
    (many_changes (size_elsewhere w table + changed_count rows (updated e (flat_map base_entry bs ++ new_entries t.added))))
    (λ a b. ap (λ (n : ℕ). many_changes (size_elsewhere w table + n))
    (sym (changed_counted c t.edited (changed_added c t.added) rows up) ∙ ap (changed_count rows) (entries_updated e bs t.added a b)))
    ∙ ap (λ (o : Option Refusal). first_some (o ∷ many_changes (size_elsewhere w table + changed_count rows (updated e (flat_map base_entry bs ++ new_entries t.added))) ∷ []))
    (sym (entries_long e bs t.added))
    ∙ sym (first_behind before _ none)

pub update_answered : (e : Edit) (table : ℕ) (rows : List Placed) (old new : Edits) (r : Result ℕ ExecErr) (before : List (Option Refusal))
    → AscendFrom 1 rows → first_some before ≡ None → IsChanged (edit_change e) table rows old new r
    → Answers (before ++ long_update e (entries_of old table rows) ∷ many_changes (size_elsewhere old table + changed_count rows (updated e (entries_of old table rows))) ∷ [])
    (length (taken e.cond (entries_of old table rows))) r
unfolding entries_of
update_answered e table rows old new r before up none is =
    answered (edit_change e) table rows old new r
    (before ++ long_update e (entries_of old table rows) ∷ many_changes (size_elsewhere old table + changed_count rows (updated e (entries_of old table rows))) ∷ []) _ is (update_same e table rows old before up none)
    (entries_taken (edit_change e) (base_rows (edits_at old table).edited rows) (edits_at old table).added)

pub update_seen : (e : Edit) (table : ℕ) (rows : List Placed) (old new : Edits) (n : ℕ) → AscendFrom 1 rows → IsChanged (edit_change e) table rows old new (Ok n)
    → entries_of new table rows ≡ updated e (entries_of old table rows)
unfolding entries_of
update_seen e table rows old new n up is =
    let t = edits_at old table in
    let w = none_of_three (base_refusal (edit_change e) (base_rows t.edited rows)) (added_refusal (edit_change e) t.added) _ is.0 in
    seen_after (edit_change e) table rows old new up is.2 ∙ entries_updated e (base_rows t.edited rows) t.added w.0 w.1

-- ---- DELETE

delete_same : (cond : Option Cond) (table : ℕ) (rows : List Placed) (w : Edits) (before : List (Option Refusal)) → AscendFrom 1 rows → first_some before ≡ None
    → first_some (change_refusals (removal cond) table rows w)
    ≡ first_some (before ++ many_changes (size_elsewhere w table + changed_count rows (deleted cond (entries_of w table rows))) ∷ [])
unfolding entries_of
delete_same cond table rows w before up none =
    let c = removal cond in
    let t = edits_at w table in
    let bs = base_rows t.edited rows in
    let count : length (changed_edits c bs) + length (changed_added c t.added) ≡ changed_count rows (deleted cond (flat_map base_entry bs ++ new_entries t.added)) =
    sym (changed_counted c t.edited (changed_added c t.added) rows up) ∙ ap (changed_count rows) (entries_deleted cond bs t.added) in
    ap (λ (o : Option Refusal). first_some (o ∷ added_refusal c t.added ∷ settling_refusal w (changed_table c table rows w) ∷ [])) (removal_free_base cond bs)
    ∙ ap (λ (o : Option Refusal). first_some (o ∷ settling_refusal w (changed_table c table rows w) ∷ [])) (removal_free_added cond t.added)
    ∙ ap (λ (n : ℕ). first_some (many_changes (size_elsewhere w table + n) ∷ [])) count
    ∙ sym (first_behind before _ none)

pub delete_answered : (cond : Option Cond) (table : ℕ) (rows : List Placed) (old new : Edits) (r : Result ℕ ExecErr) (before : List (Option Refusal))
    → AscendFrom 1 rows → first_some before ≡ None → IsChanged (removal cond) table rows old new r
    → Answers (before ++ many_changes (size_elsewhere old table + changed_count rows (deleted cond (entries_of old table rows))) ∷ [])
    (length (taken cond (entries_of old table rows))) r
unfolding entries_of
delete_answered cond table rows old new r before up none is =
    answered (removal cond) table rows old new r
    (before ++ many_changes (size_elsewhere old table + changed_count rows (deleted cond (entries_of old table rows))) ∷ []) _ is (delete_same cond table rows old before up none)
    (entries_taken (removal cond) (base_rows (edits_at old table).edited rows) (edits_at old table).added)

pub delete_seen : (cond : Option Cond) (table : ℕ) (rows : List Placed) (old new : Edits) (n : ℕ) → AscendFrom 1 rows → IsChanged (removal cond) table rows old new (Ok n)
    → entries_of new table rows ≡ deleted cond (entries_of old table rows)
unfolding entries_of
delete_seen cond table rows old new n up is =
    let t = edits_at old table in
    seen_after (removal cond) table rows old new up is.2 ∙ entries_deleted cond (base_rows t.edited rows) t.added

-- a fact for Ok, from each value
pub on_ok : (r : Result ℕ ExecErr) (A : Type 0) → ((n : ℕ) → r ≡ Ok n → A) → OnOk r A
on_ok (Ok n) A each = each n refl
on_ok (Err e) A each = tt

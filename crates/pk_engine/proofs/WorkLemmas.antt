-- The work of a statement over a table: it has changed nothing before.
use Rattle.std.proofs.Common.{◌≡◌, ℕ, List, Result, IfOk, length, Option, None, sym, ap, subst, ◌∙◌}
use Rattle.pk_values.specs.declared.memory.Memory.{Memory}
use Rattle.pk_values.specs.declared.placed.Placed.{Placed}
use Rattle.pk_values.specs.declared.refusal.Refusal.{Refusal}
use Rattle.pk_values.specs.Refusals.{first_some}
use Rattle.pk_syntax.specs.declared.edit.Update.{Update}
use Rattle.pk_syntax.specs.declared.edit.Delete.{Delete}
use Rattle.pk_syntax.specs.declared.query.Select.{Select}
use Rattle.pk_syntax.specs.Declarations.{names_of}
use Rattle.pk_schema.specs.Shapes.{Shape}
use Rattle.pk_bind.specs.Update.{edit_of}
use Rattle.pk_bind.specs.Conditions.{cond_asked}
use Rattle.pk_bind.specs.Select.{selection_of}
use Rattle.pk_exec.specs.Answers.{Answers}
use Rattle.pk_exec.specs.declared.exec_err.ExecErr.{ExecErr}
use Rattle.pk_exec.specs.Edits.{updated, deleted, taken}
use Rattle.pk_exec.specs.Selecting.{selected}
use Rattle.pk_exec.specs.Rows.{AscendFrom}
use Rattle.pk_exec.specs.Entries.{Entry, kept_entries}
use Rattle.pk_exec.specs.Works.{Edits, size_elsewhere}
use Rattle.pk_exec.specs.Seen.{entries_of}
use Rattle.pk_exec.specs.Refusals.{work_update_refusals, work_delete_refusals}
use Rattle.pk_engine.specs.declared.outcome.Outcome.{Outcome}
use Rattle.pk_engine.specs.declared.outcome.Outcome.TheVariants.{Done}
use Rattle.pk_engine.specs.declared.table.editing.TheConstants.{TABLE}
use Rattle.pk_engine.specs.Base.{Table}
use Rattle.pk_engine.specs.Edits.{entries_in, changes_in, update_entries, delete_entries}
use Rattle.pk_engine.specs.Select.{found}
use Rattle.pk_engine.specs.Outcome.{IsDone}
use Rattle.pk_engine.specs.Valid.{IsValidTable}
use Rattle.pk_engine.proofs.StandsLemmas.{if_ok}

pub valid_ascends : (t : Table) → IsValidTable t → AscendFrom 1 t.rows
valid_ascends t valid = valid.ids

-- ---- a work without edits

-- it sees the rows as they are, and nothing is changed anywhere
abbrev pub IsNew : Edits → Type 0
IsNew w = ((table : ℕ) (rows : List Placed) → entries_of w table rows ≡ kept_entries rows) × ((table : ℕ) → size_elsewhere w table ≡ 0)

new_entries : (t : Table) (w : Edits) → IsNew w → entries_of w TABLE t.rows ≡ entries_in t
new_entries t w is = is.0 TABLE t.rows

new_elsewhere : (w : Edits) → IsNew w → size_elsewhere w TABLE ≡ 0
new_elsewhere w is = is.1 TABLE

-- ---- what it comes to

settled : (rs : List (Option Refusal)) (n : ℕ) (es : List Entry) (t : Table) (m : ℕ) (seen : List Entry) (o : Outcome)
    → first_some rs ≡ None → m ≡ n → seen ≡ es → o ≡ Done m (changes_in t seen) → IsDone rs n (changes_in t es) o
settled rs n es t m seen o free counted same is =
    subst (IsDone rs n (changes_in t es)) (sym is) (free, counted, ap (changes_in t) same)

-- what is seen after a statement that isn't refused is what it makes of the rows
pub work_settled : (rs : List (Option Refusal)) (n : ℕ) (es : List Entry) (t : Table) (m : ℕ) (seen : List Entry) (r : Result Outcome Memory)
    → first_some rs ≡ None → m ≡ n → seen ≡ es → IfOk r (λ o. o ≡ Done m (changes_in t seen)) → IfOk r (IsDone rs n (changes_in t es))
work_settled rs n es t m seen r free counted same made = if_ok r made (λ o is. settled rs n es t m seen o free counted same is)

-- ---- UPDATE and DELETE over all rows of the table

pub update_refusals_are : (t : Table) (s : Shape) (rows : List Placed) (w : Edits) (u : Update) → s ≡ t.shape → rows ≡ t.rows → IsNew w
    → work_update_refusals s (size_elsewhere w TABLE) rows (entries_of w TABLE rows) u ≡ work_update_refusals t.shape 0 t.rows (entries_in t) u
update_refusals_are t s rows w u shape same is =
    ap (λ (x : Shape). work_update_refusals x (size_elsewhere w TABLE) rows (entries_of w TABLE rows) u) shape
    ∙ ap (λ (rs : List Placed). work_update_refusals t.shape (size_elsewhere w TABLE) rs (entries_of w TABLE rs) u) same
    ∙ ap (λ (n : ℕ). work_update_refusals t.shape n t.rows (entries_of w TABLE t.rows) u) (new_elsewhere w is)
    ∙ ap (λ (es : List Entry). work_update_refusals t.shape 0 t.rows es u) (new_entries t w is)

pub update_count_is : (t : Table) (s : Shape) (rows : List Placed) (w : Edits) (u : Update) → s ≡ t.shape → rows ≡ t.rows → IsNew w
    → length (taken (edit_of s.columns u).cond (entries_of w TABLE rows)) ≡ length (taken (cond_asked t.shape.columns u.cond) (entries_in t))
unfolding edit_of
update_count_is t s rows w u shape same is =
    ap (λ (x : Shape). length (taken (cond_asked x.columns u.cond) (entries_of w TABLE rows))) shape
    ∙ ap (λ (rs : List Placed). length (taken (cond_asked t.shape.columns u.cond) (entries_of w TABLE rs))) same
    ∙ ap (λ (es : List Entry). length (taken (cond_asked t.shape.columns u.cond) es)) (new_entries t w is)

pub update_entries_are : (t : Table) (s : Shape) (rows : List Placed) (w new : Edits) (u : Update) → s ≡ t.shape → rows ≡ t.rows → IsNew w
    → entries_of new TABLE rows ≡ updated (edit_of s.columns u) (entries_of w TABLE rows) → entries_of new TABLE t.rows ≡ update_entries t u
update_entries_are t s rows w new u shape same is made =
    ap (λ (rs : List Placed). entries_of new TABLE rs) (sym same) ∙ made
    ∙ ap (λ (x : Shape). updated (edit_of x.columns u) (entries_of w TABLE rows)) shape
    ∙ ap (λ (rs : List Placed). updated (edit_of t.shape.columns u) (entries_of w TABLE rs)) same
    ∙ ap (updated (edit_of t.shape.columns u)) (new_entries t w is)

pub delete_refusals_are : (t : Table) (s : Shape) (rows : List Placed) (w : Edits) (d : Delete) → s ≡ t.shape → rows ≡ t.rows → IsNew w
    → work_delete_refusals s (size_elsewhere w TABLE) rows (entries_of w TABLE rows) d ≡ work_delete_refusals t.shape 0 t.rows (entries_in t) d
delete_refusals_are t s rows w d shape same is =
    ap (λ (x : Shape). work_delete_refusals x (size_elsewhere w TABLE) rows (entries_of w TABLE rows) d) shape
    ∙ ap (λ (rs : List Placed). work_delete_refusals t.shape (size_elsewhere w TABLE) rs (entries_of w TABLE rs) d) same
    ∙ ap (λ (n : ℕ). work_delete_refusals t.shape n t.rows (entries_of w TABLE t.rows) d) (new_elsewhere w is)
    ∙ ap (λ (es : List Entry). work_delete_refusals t.shape 0 t.rows es d) (new_entries t w is)

pub delete_count_is : (t : Table) (s : Shape) (rows : List Placed) (w : Edits) (d : Delete) → s ≡ t.shape → rows ≡ t.rows → IsNew w
    → length (taken (cond_asked s.columns d.cond) (entries_of w TABLE rows)) ≡ length (taken (cond_asked t.shape.columns d.cond) (entries_in t))
delete_count_is t s rows w d shape same is =
    ap (λ (x : Shape). length (taken (cond_asked x.columns d.cond) (entries_of w TABLE rows))) shape
    ∙ ap (λ (rs : List Placed). length (taken (cond_asked t.shape.columns d.cond) (entries_of w TABLE rs))) same
    ∙ ap (λ (es : List Entry). length (taken (cond_asked t.shape.columns d.cond) es)) (new_entries t w is)

pub delete_entries_are : (t : Table) (s : Shape) (rows : List Placed) (w new : Edits) (d : Delete) → s ≡ t.shape → rows ≡ t.rows → IsNew w
    → entries_of new TABLE rows ≡ deleted (cond_asked s.columns d.cond) (entries_of w TABLE rows) → entries_of new TABLE t.rows ≡ delete_entries t d
delete_entries_are t s rows w new d shape same is made =
    ap (λ (rs : List Placed). entries_of new TABLE rs) (sym same) ∙ made
    ∙ ap (λ (x : Shape). deleted (cond_asked x.columns d.cond) (entries_of w TABLE rows)) shape
    ∙ ap (λ (rs : List Placed). deleted (cond_asked t.shape.columns d.cond) (entries_of w TABLE rs)) same
    ∙ ap (deleted (cond_asked t.shape.columns d.cond)) (new_entries t w is)

-- ---- SELECT

pub found_is : (t : Table) (s : Shape) (rows : List Placed) (w : Edits) (sel : Select) → s ≡ t.shape → rows ≡ t.rows → IsNew w
    → selected (selection_of s.columns sel) (names_of s.columns) (entries_of w TABLE rows) ≡ found t sel
found_is t s rows w sel shape same is =
    ap (λ (x : Shape). selected (selection_of x.columns sel) (names_of x.columns) (entries_of w TABLE rows)) shape
    ∙ ap (λ (rs : List Placed). selected (selection_of t.shape.columns sel) (names_of t.shape.columns) (entries_of w TABLE rs)) same
    ∙ ap (selected (selection_of t.shape.columns sel) (names_of t.shape.columns)) (new_entries t w is)

pub answers_again : {X : Type 0} → (old new : List (Option Refusal)) (x y : X) (r : Result X ExecErr) → old ≡ new → x ≡ y → Answers old x r → Answers new y r
answers_again old new x y r lists same answers = subst (λ z. Answers new z r) same (subst (λ (rs : List (Option Refusal)). Answers rs x r) lists answers)

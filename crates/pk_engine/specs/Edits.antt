-- INSERT, UPDATE and DELETE, each of which is a transaction of its own that has changed nothing before: what a statement makes of the rows of a table is one commit, unless it changes nothing.
use Rattle.std.specs.Prelude.{Bool, true, false, ◌&&◌, List, [], ◌∷◌, ◌++◌, length, Option, if◌then◌else◌}
use Rattle.pk_values.specs.declared.refusal.Refusal.{Refusal}
use Rattle.pk_values.specs.declared.changes.Changes.{Changes}
use Rattle.pk_syntax.specs.declared.edit.Insert.{Insert}
use Rattle.pk_syntax.specs.declared.edit.Update.{Update}
use Rattle.pk_syntax.specs.declared.edit.Delete.{Delete}
use Rattle.pk_bind.specs.Insert.{new_rows}
use Rattle.pk_bind.specs.Update.{edit_of}
use Rattle.pk_bind.specs.Conditions.{cond_asked}
use Rattle.pk_exec.specs.Entries.{Entry, kept_entries}
use Rattle.pk_exec.specs.Edits.{inserted_into, updated, deleted, taken}
use Rattle.pk_exec.specs.Changes.{changes_of}
use Rattle.pk_exec.specs.Refusals.{work_insert_refusals, work_update_refusals, work_delete_refusals}
use Rattle.pk_report.specs.declared.reply.Reply.{Reply}
use Rattle.pk_report.specs.declared.reply.Reply.TheVariants.{Inserted, Updated, Deleted}
use Rattle.pk_engine.specs.Base.{Table, changed_by}
use Rattle.pk_engine.specs.State.{State, with_commit, Changed}
use Rattle.pk_engine.specs.Refusing.{Step}
use Rattle.pk_engine.specs.Limits.{limit_refusals}
use Rattle.pk_engine.specs.Keys.{key_broken}

-- the rows of the table, as a transaction that has changed none of them sees them
abbrev pub entries_in : Table → List Entry
entries_in t = kept_entries t.rows

-- what these entries change of the table
abbrev pub changes_in : Table → List Entry → Changes
changes_in t entries = changes_of t.rows t.next entries

abbrev pub is_empty : {X : Type 0} → List X → Bool
is_empty [] = true
is_empty (x ∷ xs) = false

-- no row goes and none is put
abbrev pub is_unchanged : Changes → Bool
is_unchanged c = is_empty c.gone && is_empty c.put

-- what changes of a table are refused for, in this order: the limits of the base, and the keys of the table as it would be
abbrev pub change_refusals : State → Table → Changes → List (Option Refusal)
change_refusals st t c = limit_refusals st t c ++ (key_broken (changed_by c t) ∷ [])

-- what the commit of changes is refused for; where nothing changes, there is no commit
abbrev pub commit_refusals : State → Table → Changes → List (Option Refusal)
commit_refusals st t c = if is_unchanged c then [] else change_refusals st t c

-- the state with changes of a table committed; without a change there is no commit
abbrev pub with_changes : State → Table → Changes → State
with_changes st t c = if is_unchanged c then st else with_commit st (Changed ((t.name, c) ∷ []))

-- a reply, and the changes that these entries make of the table, committed
abbrev pub edited : State → Table → List Entry → Reply → Step
edited st t entries reply = record { reply = reply; next = with_changes st t (changes_in t entries) }

-- ---- INSERT

-- the rows of the table with those of the statement behind them
abbrev pub insert_entries : Table → Insert → List Entry
insert_entries t i = inserted_into (new_rows t.shape.columns i) (entries_in t)

-- what INSERT is refused for, in this order
abbrev pub insert_refusals : State → Table → Insert → List (Option Refusal)
insert_refusals st t i = work_insert_refusals t.shape 0 i ++ commit_refusals st t (changes_in t (insert_entries t i))

-- INSERT that isn't refused
abbrev pub inserted : State → Table → Insert → Step
inserted st t i = edited st t (insert_entries t i) (Inserted (length i.rows))

-- ---- UPDATE

-- the rows of the table, with those that meet the condition set
abbrev pub update_entries : Table → Update → List Entry
update_entries t u = updated (edit_of t.shape.columns u) (entries_in t)

-- what UPDATE is refused for, in this order
abbrev pub update_refusals : State → Table → Update → List (Option Refusal)
update_refusals st t u = work_update_refusals t.shape 0 t.rows (entries_in t) u ++ commit_refusals st t (changes_in t (update_entries t u))

-- UPDATE that isn't refused; it tells how many rows met the condition
abbrev pub updated_rows : State → Table → Update → Step
updated_rows st t u = edited st t (update_entries t u) (Updated (length (taken (cond_asked t.shape.columns u.cond) (entries_in t))))

-- ---- DELETE

-- the rows of the table but those that meet the condition
abbrev pub delete_entries : Table → Delete → List Entry
delete_entries t d = deleted (cond_asked t.shape.columns d.cond) (entries_in t)

-- what DELETE is refused for, in this order
abbrev pub delete_refusals : State → Table → Delete → List (Option Refusal)
delete_refusals st t d = work_delete_refusals t.shape 0 t.rows (entries_in t) d ++ commit_refusals st t (changes_in t (delete_entries t d))

-- DELETE that isn't refused; it tells how many rows met the condition
abbrev pub deleted_rows : State → Table → Delete → Step
deleted_rows st t d = edited st t (delete_entries t d) (Deleted (length (taken (cond_asked t.shape.columns d.cond) (entries_in t))))

-- How keys are judged when a statement commits, in the words of completions.
use Rattle.std.specs.Prelude.{◌≡◌, ℕ, List, [], ◌++◌, Option, Some, None, if◌then◌else◌}
use Rattle.pk_values.specs.declared.broken.Break.{Break}
use Rattle.pk_values.specs.declared.changes.Changes.{Changes}
use Rattle.pk_values.specs.declared.key.KeyDecl.{KeyDecl}
use Rattle.pk_values.specs.declared.placed.Placed.{Placed}
use Rattle.pk_values.specs.declared.refusal.Refusal.{Refusal}
use Rattle.pk_values.specs.declared.refusal.Refusal.TheVariants.{BrokenKey}
use Rattle.pk_values.specs.Refusals.{first_some}
use Rattle.pk_syntax.specs.declared.edit.Insert.{Insert}
use Rattle.pk_syntax.specs.declared.edit.Update.{Update}
use Rattle.pk_syntax.specs.declared.edit.Delete.{Delete}
use Rattle.pk_syntax.specs.declared.statement.Statement.TheVariants as statements
use Rattle.pk_syntax.specs.Given.{IsGiven}
use Rattle.pk_exec.specs.Refusals.{work_insert_refusals, work_update_refusals, work_delete_refusals}
use Rattle.pk_guard.specs.Laws.{ShowsTwoRows}
use Rattle.pk_engine.specs.Base.{Table, changed_by}
use Rattle.pk_engine.specs.State.{State, current}
use Rattle.pk_engine.specs.Refusing.{Step, refused, table_of}
use Rattle.pk_engine.specs.Limits.{limit_refusals}
use Rattle.pk_engine.specs.Keys.{KeepsKeys}
use Rattle.pk_engine.specs.Edits.{is_unchanged, changes_in, entries_in, insert_entries, inserted, update_entries, updated_rows, delete_entries, deleted_rows}
use Rattle.pk_engine.specs.Valid.{IsValid}
use Rattle.pk_engine.specs.Answer.{answer}

-- Two rows of the table are shown that break a key of it, and no other break comes before this one: by the key's place, then the lower id, then the higher.
-- Two rows break a certain key where some completion of the two agrees on its columns, and a possible key where every completion of the two does. The values
-- shown are common to the two: for a certain key in some completion of them, for a possible key as they are; 0 or '' is shown where both rows are null. The key
-- fails over all completions.
abbrev pub ShowsBreak : Table → Break → Type 0
ShowsBreak t b = (c i j : ℕ) × (k : KeyDecl) × (p q : Placed) × ShowsTwoRows t.shape t.rows b c i j k p q

-- what is judged before the keys: what the statement itself is refused for, and then the limits of the base, where anything changes
abbrev pub judged_before : State → Table → List (Option Refusal) → Changes → List (Option Refusal)
judged_before st t own c = own ++ (if is_unchanged c then [] else limit_refusals st t c)

-- how a statement is answered that changes a table so: where nothing else refuses it, it is refused for a key exactly where some key of the table,
-- as it would be, fails over all completions, and its least break is shown; else it is done
pub record IsJudged (st : State) (t : Table) (own : List (Option Refusal)) (c : Changes) (done answered : Step) : Type 0 where
  pub other : (r : Refusal) → first_some (judged_before st t own c) ≡ Some r → answered ≡ refused st r
  pub held : first_some (judged_before st t own c) ≡ None → KeepsKeys (changed_by c t) → answered ≡ done
  pub broken : first_some (judged_before st t own c) ≡ None → ¬ KeepsKeys (changed_by c t) → (b : Break) × (answered ≡ refused st (BrokenKey t.name b)) × ShowsBreak (changed_by c t) b

-- INSERT, UPDATE and DELETE about a table
pub record AreJudged (st : State) (t : Table) : Type 0 where
  pub inserts : (i : Insert) → IsGiven (statements.Insert i) → table_of st i.table ≡ Some t
      → IsJudged st t (work_insert_refusals t.shape 0 i) (changes_in t (insert_entries t i)) (inserted st t i) (answer st (statements.Insert i))
  pub updates : (u : Update) → IsGiven (statements.Update u) → table_of st u.table ≡ Some t
      → IsJudged st t (work_update_refusals t.shape 0 t.rows (entries_in t) u) (changes_in t (update_entries t u)) (updated_rows st t u) (answer st (statements.Update u))
  pub deletes : (d : Delete) → IsGiven (statements.Delete d) → table_of st d.table ≡ Some t
      → IsJudged st t (work_delete_refusals t.shape 0 t.rows (entries_in t) d) (changes_in t (delete_entries t d)) (deleted_rows st t d) (answer st (statements.Delete d))

-- every statement that changes rows is judged so
abbrev pub KeysAreJudgedByCompletions : Type 0
KeysAreJudgedByCompletions = (st : State) (t : Table) → IsValid (current st) → AreJudged st t

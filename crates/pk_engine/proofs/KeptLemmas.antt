-- Every answer leaves a valid base.
use Rattle.std.proofs.Common.{◌≡◌, ℕ, Bool, true, false, not, ◌&&◌, length, arith, List, [], ◌∷◌, ◌++◌, Option, Some, None, IsTrue, if◌then◌else◌, refl, sym, subst, ap, ◌∙◌}
use Rattle.std.specs.Prelude.{nat_le}
use Rattle.std.specs.List.{AllByRecursion}
use Rattle.std.proofs.lemmas.Bool.{and_parts, and_from, leb-true, le-leb}
use Rattle.std.proofs.lemmas.List.Elements.{recursion_from_All}
use Rattle.std.proofs.lemmas.Slice.Eq.{bytes_eq-Decides}
use Rattle.pk_values.specs.Name.{is_name}
use Rattle.pk_values.specs.Refusals.{first_some}
use Rattle.pk_values.specs.declared.refusal.Refusal.{Refusal}
use Rattle.pk_values.specs.declared.changes.Changes.{Changes}
use Rattle.pk_syntax.specs.declared.statement.Statement.TheVariants.{Create, Drop, Insert as InsertInto, Update, Delete, Select as SelectFrom, Show, Implies, Cover}
use Rattle.pk_syntax.specs.declared.declaration.TableDecl.{TableDecl}
use Rattle.pk_syntax.specs.Given.{IsGiven}
use Rattle.pk_syntax.specs.Words.{is_reserved}
use Rattle.pk_schema.specs.Making.{schema_refusals}
use Rattle.pk_schema.specs.Shapes.{is_plain_name, shape_of}
use Rattle.pk_schema.specs.Laws.{DeclarationsMakeShapes}
use Rattle.pk_guard.specs.Laws.{KeysHoldWhereNothingBreaks}
use Rattle.pk_exec.specs.Entries.{Entry}
use Rattle.pk_exec.specs.Refusals.{work_insert_refusals, work_update_refusals, work_delete_refusals}
use Rattle.pk_bind.specs.Select.{select_refusals}
use Rattle.pk_engine.specs.Base.{Table, is_named, table_named}
use Rattle.pk_engine.specs.State.{State, Changed, Made, Dropped, current, with_commit}
use Rattle.pk_engine.specs.Refusing.{Step, refused_or, decided, about, about_found, table_of}
use Rattle.pk_engine.specs.Limits.{tables_full, commits_full}
use Rattle.pk_engine.specs.Create.{create_refusals, created, if_found, table_exists}
use Rattle.pk_engine.specs.Drop.{table_large, drop_refusals, dropped}
use Rattle.pk_engine.specs.Edits.{changes_in, is_unchanged, change_refusals, commit_refusals, with_changes, entries_in, insert_entries, insert_refusals, inserted, update_entries, update_refusals, updated_rows, delete_refusals, deleted_rows, delete_entries}
use Rattle.pk_engine.specs.Entries.{AreOf}
use Rattle.pk_engine.specs.Select.{selected_rows}
use Rattle.pk_engine.specs.Laws.{StatementsMakeEntries}
use Rattle.pk_engine.specs.Valid.{is_table_name, IsValid, IsValidTable, AnswersKeepValid}
use Rattle.pk_engine.specs.Reasoning.{implies_refusals, implied_told}
use Rattle.pk_engine.specs.Answer.{answer}
use Rattle.pk_engine.proofs.CommitLemmas.{has_room}
use Rattle.pk_engine.proofs.LimitLemmas.{rows_within, ids_within, commits_within, tables_within}
use Rattle.pk_engine.proofs.StandsLemmas.{current_more}
use Rattle.pk_engine.proofs.ValidLemmas.{changed_is_valid, made_is_valid, dropped_is_valid}
use Rattle.pk_values.proofs.RefusalLemmas.{front_free, head_free}

-- ---- what a refusal, or what is done where none stands, keeps

pub decided_keeps : (P : State → Type 0) (st : State) (rs : List (Option Refusal)) (done : Step) → P st → (first_some rs ≡ None → P done.next) → P (decided st rs done).next
decided_keeps P st rs done now does = go (first_some rs) refl
  where
    go : (o : Option Refusal) → first_some rs ≡ o → P (refused_or st o done).next
    go (Some r) is = now
    go None is = does is

pub about_keeps : (P : State → Type 0) (st : State) (name : List ℕ) (step : Table → Step) → P st → ((t : Table) → table_of st name ≡ Some t → P (step t).next) → P (about st name step).next
unfolding about
about_keeps P st name step now does = go (table_of st name) refl
  where
    go : (o : Option Table) → table_of st name ≡ o → P (about_found st name step o).next
    go (Some t) is = does t is
    go None is = now

-- ---- the table that is found

pub found_is : (P : Table → Type 0) (name : List ℕ) (ts : List Table) (t : Table) → AllByRecursion P ts → table_named name ts ≡ Some t → P t × (t.name ≡ name)
unfolding table_named
found_is P name [] t all found = absurd cc
found_is P name (u ∷ us) t all found = go (is_named name u) refl found (found_is P name us t all.1)
  where
    go : (b : Bool) → is_named name u ≡ b → if b then Some u else table_named name us ≡ Some t → (table_named name us ≡ Some t → P t × (t.name ≡ name)) → P t × (t.name ≡ name)
    go true is found rest =
        let same : u ≡ t = cc in
        (subst P same all.0, subst (λ (v : Table). v.name ≡ name) same ((bytes_eq-Decides u.name name).0 is))
    go false is found rest = rest found

pub found_valid : (st : State) (name : List ℕ) (t : Table) → IsValid (current st) → table_of st name ≡ Some t → IsValidTable t
found_valid st name t valid found = (found_is IsValidTable name (current st).tables t (recursion_from_All IsValidTable (current st).tables valid.tables) found).0

pub found_name : (st : State) (name : List ℕ) (t : Table) → table_of st name ≡ Some t → t.name ≡ name
found_name st name t found = (found_is (λ u. Unit {0}) name (current st).tables t (anything (current st).tables) found).1
  where
    anything : (ts : List Table) → AllByRecursion (λ (u : Table). Unit {0}) ts
    anything [] = tt
    anything (u ∷ us) = (tt, anything us)

-- it has its name
pub found_named : (st : State) (name : List ℕ) (t : Table) → table_of st name ≡ Some t → table_of st t.name ≡ Some t
found_named st name t found = ap (table_of st) (found_name st name t found) ∙ found

-- ---- CREATE TABLE

pub none_exists : (st : State) (name : List ℕ) → table_exists st name ≡ None → table_of st name ≡ None
unfolding table_exists
none_exists st name none = go (table_of st name) none
  where
    go : (o : Option Table) → if_found name o ≡ None → o ≡ None
    go (Some t) none = absurd cc
    go None none = refl

-- a name that a schema's table may have is one that a table may have
pub plain_named : (name : List ℕ) → IsTrue (is_plain_name name) → IsTrue (is_table_name name)
plain_named name plain =
    let parts = and_parts (is_name name && not (is_reserved name)) (nat_le (length name) 30) plain in
    let short = leb-true (length name) 30 parts.1 in
    and_from (is_name name && not (is_reserved name)) (nat_le (length name) 255) parts.0 (le-leb (length name) 255 (omega (arith, short)))

created_valid : DeclarationsMakeShapes → (st : State) (d : TableDecl) → IsGiven (Create d) → IsValid (current st) → first_some (create_refusals st d) ≡ None
    → IsValid (current (created st d).next)
created_valid makes st d is_given valid free =
    let a = head_free (table_exists st d.table) _ free in
    let b = front_free (schema_refusals d) (tables_full st ∷ commits_full st ∷ []) a.1 in
    let c = head_free (tables_full st) _ b.1 in
    let e = head_free (commits_full st) [] c.1 in
    let made = makes d is_given.plain is_given.names b.0 in
    subst IsValid (sym (current_more st (Made d.table (shape_of d))))
    (made_is_valid (current st) d.table (shape_of d) valid (plain_named d.table made.0) made.1 (none_exists st d.table a.0) (tables_within st c.0) (commits_within st e.0))

-- ---- DROP TABLE

dropped_valid : (st : State) (t : Table) → IsValid (current st) → first_some (drop_refusals st t) ≡ None → IsValid (current (dropped st t).next)
dropped_valid st t valid free =
    let a = head_free (table_large t) _ free in
    let b = head_free (commits_full st) [] a.1 in
    subst IsValid (sym (current_more st (Dropped t.name))) (dropped_is_valid (current st) t.name valid (commits_within st b.0))

-- ---- INSERT, UPDATE and DELETE

changed_valid : KeysHoldWhereNothingBreaks → (st : State) (t : Table) (c : Changes) → IsValid (current st) → IsValidTable t → table_of st t.name ≡ Some t → AreOf t c → first_some (commit_refusals st t c) ≡ None
    → IsValid (current (with_changes st t c))
changed_valid unbroken st t c valid good there of free = go (is_unchanged c) free
  where
    go : (b : Bool) → first_some (if b then [] else change_refusals st t c) ≡ None → IsValid (current (if b then st else with_commit st (Changed ((t.name, c) ∷ []))))
    go true free = valid
    go false free =
        let room = has_room st t c free in
        subst IsValid (sym (current_more st (Changed ((t.name, c) ∷ []))))
        (changed_is_valid unbroken (current st) t c valid there good of (ids_within t c room.ids) (rows_within st t c room.rows) (commits_within st room.commits) room.keys)

edit_valid : KeysHoldWhereNothingBreaks → (st : State) (name : List ℕ) (t : Table) (rs : List (Option Refusal)) (es : List Entry) → IsValid (current st) → table_of st name ≡ Some t
    → (IsValidTable t → first_some rs ≡ None → AreOf t (changes_in t es)) → first_some (rs ++ commit_refusals st t (changes_in t es)) ≡ None
    → IsValid (current (with_changes st t (changes_in t es)))
edit_valid unbroken st name t rs es valid found of free =
    let good = found_valid st name t valid found in
    let parts = front_free rs (commit_refusals st t (changes_in t es)) free in
    changed_valid unbroken st t (changes_in t es) valid good (found_named st name t found) (of good parts.0) parts.1

-- ---- every statement

pub answer_valid : KeysHoldWhereNothingBreaks → DeclarationsMakeShapes → StatementsMakeEntries → AnswersKeepValid
unfolding answer
answer_valid unbroken makes entries st (Create d) is_given valid =
    decided_keeps (λ x. IsValid (current x)) st (create_refusals st d) (created st d) valid (created_valid makes st d is_given valid)
answer_valid unbroken makes entries st (Drop name) is_given valid =
    about_keeps (λ x. IsValid (current x)) st name _ valid (λ t found. decided_keeps (λ x. IsValid (current x)) st (drop_refusals st t) (dropped st t) valid (dropped_valid st t valid))
answer_valid unbroken makes entries st (InsertInto i) is_given valid =
    about_keeps (λ x. IsValid (current x)) st i.table _ valid (λ t found. decided_keeps (λ x. IsValid (current x)) st (insert_refusals st t i) (inserted st t i) valid
    (edit_valid unbroken st i.table t (work_insert_refusals t.shape 0 i) (insert_entries t i) valid found (λ good free. (entries t good).inserts i is_given free)))
answer_valid unbroken makes entries st (Update u) is_given valid =
    about_keeps (λ x. IsValid (current x)) st u.table _ valid (λ t found. decided_keeps (λ x. IsValid (current x)) st (update_refusals st t u) (updated_rows st t u) valid
    (edit_valid unbroken st u.table t (work_update_refusals t.shape 0 t.rows (entries_in t) u) (update_entries t u) valid found (λ good free. (entries t good).updates u is_given free)))
answer_valid unbroken makes entries st (Delete d) is_given valid =
    about_keeps (λ x. IsValid (current x)) st d.table _ valid (λ t found. decided_keeps (λ x. IsValid (current x)) st (delete_refusals st t d) (deleted_rows st t d) valid
    (edit_valid unbroken st d.table t (work_delete_refusals t.shape 0 t.rows (entries_in t) d) (delete_entries t d) valid found (λ good free. (entries t good).deletes d)))
answer_valid unbroken makes entries st (SelectFrom s) is_given valid =
    about_keeps (λ x. IsValid (current x)) st s.table _ valid (λ t found. decided_keeps (λ x. IsValid (current x)) st (select_refusals t.shape s) (selected_rows st t s) valid (λ free. valid))
answer_valid unbroken makes entries st (Show name) is_given valid = about_keeps (λ x. IsValid (current x)) st name _ valid (λ t found. valid)
answer_valid unbroken makes entries st (Implies name k) is_given valid =
    about_keeps (λ x. IsValid (current x)) st name _ valid (λ t found. decided_keeps (λ x. IsValid (current x)) st (implies_refusals t k) (implied_told st t k) valid (λ free. valid))
answer_valid unbroken makes entries st (Cover name) is_given valid = about_keeps (λ x. IsValid (current x)) st name _ valid (λ t found. valid)
answer_valid unbroken makes entries st _ is_given valid = valid

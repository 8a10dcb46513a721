-- What a statement leaves, and what it makes where its reply says so.
use Rattle.std.proofs.Common.{◌≡◌, ◌≢◌, ℕ, Bool, true, false, List, [], ◌∷◌, map, Option, Some, None, if◌then◌else◌, refl, sym, subst, ap, ◌∙◌}
use Rattle.std.specs.Cmp.Lexicographic.{slice_cmp}
use Rattle.std.specs.Ordering.{nat_cmp, is_eq}
use Rattle.std.specs.declared.cmp.Ordering.TheVariants.{Less}
use Rattle.std.specs.List.{AllByRecursion}
use Rattle.std.specs.List.Sorted.{IsStrictlySortedBy}
use Rattle.std.specs.Str.{bytes_eq}
use Rattle.std.proofs.lemmas.Slice.Eq.{bytes_eq-Decides}
use Rattle.std.proofs.lemmas.Map.Text.{is_eq-slice_cmp}
use Rattle.pk_values.specs.Refusals.{first_some}
use Rattle.pk_values.specs.declared.changes.Changes.{Changes}
use Rattle.pk_values.specs.declared.refusal.Refusal.{Refusal}
use Rattle.pk_syntax.specs.declared.query.What.{What}
use Rattle.pk_syntax.specs.declared.query.What.TheVariants.{All, Columns, Count}
use Rattle.pk_syntax.specs.declared.statement.Statement.TheVariants as statements
use Rattle.pk_report.specs.declared.reply.Reply.{Reply}
use Rattle.pk_report.specs.declared.reply.Reply.TheVariants as replies
use Rattle.pk_bind.specs.Select.{select_refusals}
use Rattle.pk_schema.specs.Shapes.{shape_of}
use Rattle.pk_exec.specs.declared.selected.Selected.{Selected}
use Rattle.pk_engine.specs.Base.{Table, IsInNameOrder, is_named, comes_before, table_named, with_table, without_table, change_table, changed_by}
use Rattle.pk_engine.specs.State.{State, Commit, Changed, Made, Dropped, made_table, current, with_commit, tables_after}
use Rattle.pk_engine.specs.Refusing.{Step, refused_or, decided, about, about_found, table_of}
use Rattle.pk_engine.specs.Create.{create_refusals, created, table_exists}
use Rattle.pk_engine.specs.Drop.{drop_refusals, dropped}
use Rattle.pk_engine.specs.Edits.{is_unchanged, with_changes, changes_in, insert_refusals, inserted, insert_entries, update_refusals, updated_rows, update_entries, delete_refusals, deleted_rows, delete_entries}
use Rattle.pk_engine.specs.Select.{told_as, found, selected_rows}
use Rattle.pk_engine.specs.Reasoning.{implies_refusals, implied_told}
use Rattle.pk_engine.specs.Answer.{answer}
use Rattle.pk_engine.specs.Laws.{SelectsChangeNothing, RefusalsChangeNothing, OtherTablesStay, CreatedTablesAreThere, DroppedTablesAreGone}
use Rattle.pk_engine.proofs.AnswerLemmas.{about_leaves, told_leaves}
use Rattle.pk_engine.proofs.KeptLemmas.{decided_keeps, about_keeps, found_name, none_exists}
use Rattle.pk_engine.proofs.RowLemmas.{changed_is_same}
use Rattle.pk_engine.proofs.StandsLemmas.{current_more}
use Rattle.pk_values.proofs.RefusalLemmas.{head_free}

-- ---- what leaves the state as it is

pub selects_leave : SelectsChangeNothing
unfolding answer
selects_leave st s = about_leaves st s.table (λ t. select_refusals t.shape s) (λ t. selected_rows st t s) (λ t. refl)

-- the reply is none of a refusal
abbrev pub IsNoRefusal : Reply → Type 0
IsNoRefusal reply = (r : Refusal) → reply ≢ replies.Refused r

refused_leaves : (st : State) (rs : List (Option Refusal)) (done : Step) (r : Refusal) → IsNoRefusal done.reply → (decided st rs done).reply ≡ replies.Refused r → (decided st rs done).next ≡ st
refused_leaves st rs done r none is = go (first_some rs) is
  where
    go : (o : Option Refusal) → (refused_or st o done).reply ≡ replies.Refused r → (refused_or st o done).next ≡ st
    go (Some x) is = refl
    go None is = absurd (none r is)

found_leaves : (st : State) (name : List ℕ) (step : Table → Step) (r : Refusal) → ((t : Table) → (step t).reply ≡ replies.Refused r → (step t).next ≡ st)
    → (about st name step).reply ≡ replies.Refused r → (about st name step).next ≡ st
unfolding about
found_leaves st name step r leaves is = go (table_of st name) is
  where
    go : (o : Option Table) → (about_found st name step o).reply ≡ replies.Refused r → (about_found st name step o).next ≡ st
    go (Some t) is = leaves t is
    go None is = refl

told_no_refusal : (what : What) (rows : Selected) → IsNoRefusal (told_as what rows)
told_no_refusal All rows r is = cc
told_no_refusal (Columns names) rows r is = cc
told_no_refusal Count rows r is = cc

pub refusals_leave : RefusalsChangeNothing
unfolding answer
refusals_leave st (statements.Create d) r is = refused_leaves st (create_refusals st d) (created st d) r (λ x e. cc) is
refusals_leave st (statements.Drop name) r is = found_leaves st name _ r (λ t. refused_leaves st (drop_refusals st t) (dropped st t) r (λ x e. cc)) is
refusals_leave st (statements.Insert i) r is = found_leaves st i.table _ r (λ t. refused_leaves st (insert_refusals st t i) (inserted st t i) r (λ x e. cc)) is
refusals_leave st (statements.Update u) r is = found_leaves st u.table _ r (λ t. refused_leaves st (update_refusals st t u) (updated_rows st t u) r (λ x e. cc)) is
refusals_leave st (statements.Delete d) r is = found_leaves st d.table _ r (λ t. refused_leaves st (delete_refusals st t d) (deleted_rows st t d) r (λ x e. cc)) is
refusals_leave st (statements.Select s) r is = found_leaves st s.table _ r (λ t. refused_leaves st (select_refusals t.shape s) (selected_rows st t s) r (told_no_refusal s.what (found t s))) is
refusals_leave st (statements.Show name) r is = told_leaves st name _ (λ t. refl)
refusals_leave st (statements.Implies name k) r is = about_leaves st name (λ t. implies_refusals t k) (λ t. implied_told st t k) (λ t. refl)
refusals_leave st (statements.Cover name) r is = told_leaves st name _ (λ t. refl)
refusals_leave st _ r is = refl

-- ---- the other tables

pub tables_more : (st : State) (c : Commit) (name : List ℕ) → table_of (with_commit st c) name ≡ table_named name (tables_after c (current st).tables)
tables_more st c name = ap (λ b. table_named name b.tables) (current_more st c)

unnamed : (name : List ℕ) (t : Table) → t.name ≢ name → is_named name t ≡ false
unnamed name t other = go (is_named name t) refl
  where
    go : (b : Bool) → is_named name t ≡ b → b ≡ false
    go true is = absurd (other ((bytes_eq-Decides t.name name).0 is))
    go false is = refl

pub named : (name : List ℕ) (t : Table) → is_named name t ≡ true → t.name ≡ name
named name t is = (bytes_eq-Decides t.name name).0 is

passed_over : (name : List ℕ) (t : Table) (o : Option Table) → t.name ≢ name → if is_named name t then Some t else o ≡ o
passed_over name t o other = ap (λ b. if b then Some t else o) (unnamed name t other)

other_with : (name : List ℕ) (t : Table) (ts : List Table) → t.name ≢ name → table_named name (with_table t ts) ≡ table_named name ts
unfolding table_named with_table
other_with name t [] other = passed_over name t None other
other_with name t (u ∷ us) other =
    elim (comes_before t.name u.name) as (λ b. table_named name (if b then t ∷ u ∷ us else u ∷ with_table t us) ≡ table_named name (u ∷ us)) [
      | true ↦ passed_over name t (table_named name (u ∷ us)) other
      | false ↦ ap (λ o. if is_named name u then Some u else o) (other_with name t us other)
    ]

other_without : (name gone : List ℕ) (ts : List Table) → gone ≢ name → table_named name (without_table gone ts) ≡ table_named name ts
unfolding table_named without_table
other_without name gone [] other = refl
other_without name gone (t ∷ ts) other = go (is_named gone t) refl (other_without name gone ts other)
  where
    go : (b : Bool) → is_named gone t ≡ b → table_named name (without_table gone ts) ≡ table_named name ts
        → table_named name (if b then ts else t ∷ without_table gone ts) ≡ table_named name (t ∷ ts)
    go true is rest = sym (passed_over name t (table_named name ts) (λ e. other (sym (named gone t is) ∙ e)))
    go false is rest = ap (λ o. if is_named name t then Some t else o) rest

other_changed : (name changed : List ℕ) (c : Changes) (ts : List Table) → changed ≢ name → table_named name (change_table changed c ts) ≡ table_named name ts
unfolding table_named change_table
other_changed name changed c [] other = refl
other_changed name changed c (t ∷ ts) other = go (is_named changed t) refl (other_changed name changed c ts other)
  where
    go : (b : Bool) → is_named changed t ≡ b → table_named name (change_table changed c ts) ≡ table_named name ts
        → table_named name (if b then changed_by c t ∷ ts else t ∷ change_table changed c ts) ≡ table_named name (t ∷ ts)
    go true is rest =
        passed_over name (changed_by c t) (table_named name ts) (λ e. other (sym (named changed t is) ∙ sym (changed_is_same c t).0 ∙ e))
        ∙ sym (passed_over name t (table_named name ts) (λ e. other (sym (named changed t is) ∙ e)))
    go false is rest = ap (λ o. if is_named name t then Some t else o) rest

changes_leave : (st : State) (t : Table) (c : Changes) (name : List ℕ) → t.name ≢ name → table_of (with_changes st t c) name ≡ table_of st name
changes_leave st t c name other =
    elim (is_unchanged c) as (λ b. table_of (if b then st else with_commit st (Changed ((t.name, c) ∷ []))) name ≡ table_of st name) [
      | true ↦ refl
      | false ↦ tables_more st (Changed ((t.name, c) ∷ [])) name ∙ other_changed name t.name c (current st).tables other
    ]

pub others_stay : OtherTablesStay
unfolding answer
others_stay st (statements.Create d) name other =
    decided_keeps (λ x. table_of x name ≡ table_of st name) st (create_refusals st d) (created st d) refl
    (λ free. tables_more st (Made d.table (shape_of d)) name ∙ other_with name (made_table d.table (shape_of d)) (current st).tables (λ e. other (ap Some e)))
others_stay st (statements.Drop gone) name other =
    about_keeps (λ x. table_of x name ≡ table_of st name) st gone _ refl (λ t is. decided_keeps (λ x. table_of x name ≡ table_of st name) st (drop_refusals st t) (dropped st t) refl
    (λ free. tables_more st (Dropped t.name) name ∙ other_without name t.name (current st).tables (λ e. other (ap Some (sym (found_name st gone t is) ∙ e)))))
others_stay st (statements.Insert i) name other =
    about_keeps (λ x. table_of x name ≡ table_of st name) st i.table _ refl (λ t is. decided_keeps (λ x. table_of x name ≡ table_of st name) st (insert_refusals st t i) (inserted st t i) refl
    (λ free. changes_leave st t (changes_in t (insert_entries t i)) name (λ e. other (ap Some (sym (found_name st i.table t is) ∙ e)))))
others_stay st (statements.Update u) name other =
    about_keeps (λ x. table_of x name ≡ table_of st name) st u.table _ refl (λ t is. decided_keeps (λ x. table_of x name ≡ table_of st name) st (update_refusals st t u) (updated_rows st t u) refl
    (λ free. changes_leave st t (changes_in t (update_entries t u)) name (λ e. other (ap Some (sym (found_name st u.table t is) ∙ e)))))
others_stay st (statements.Delete d) name other =
    about_keeps (λ x. table_of x name ≡ table_of st name) st d.table _ refl (λ t is. decided_keeps (λ x. table_of x name ≡ table_of st name) st (delete_refusals st t d) (deleted_rows st t d) refl
    (λ free. changes_leave st t (changes_in t (delete_entries t d)) name (λ e. other (ap Some (sym (found_name st d.table t is) ∙ e)))))
others_stay st (statements.Select s) name other = ap (λ x. table_of x name) (selects_leave st s)
others_stay st (statements.Show shown) name other = ap (λ x. table_of x name) (told_leaves st shown _ (λ t. refl))
others_stay st (statements.Implies asked k) name other = ap (λ x. table_of x name) (about_leaves st asked (λ t. implies_refusals t k) (λ t. implied_told st t k) (λ t. refl))
others_stay st (statements.Cover asked) name other = ap (λ x. table_of x name) (told_leaves st asked _ (λ t. refl))
others_stay st _ name other = refl

-- ---- what was done, by the reply

pub decided_says : (st : State) (rs : List (Option Refusal)) (done : Step) (reply : Reply) → IsNoRefusal reply → (decided st rs done).reply ≡ reply
    → (first_some rs ≡ None) × (decided st rs done ≡ done)
decided_says st rs done reply none is = go (first_some rs) refl is
  where
    go : (o : Option Refusal) → first_some rs ≡ o → (refused_or st o done).reply ≡ reply → (first_some rs ≡ None) × (refused_or st o done ≡ done)
    go (Some r) at is = absurd (none r (sym is))
    go None at is = (at, refl)

-- the table that the statement was about, of which nothing was refused
pub about_says : (st : State) (name : List ℕ) (refusals : Table → List (Option Refusal)) (done : Table → Step) (reply : Reply) → IsNoRefusal reply
    → (about st name (λ t. decided st (refusals t) (done t))).reply ≡ reply
    → (t : Table) × (table_of st name ≡ Some t) × (first_some (refusals t) ≡ None) × (about st name (λ t. decided st (refusals t) (done t)) ≡ done t)
unfolding about
about_says st name refusals done reply none is = go (table_of st name) refl is
  where
    go : (o : Option Table) → table_of st name ≡ o → (about_found st name (λ t. decided st (refusals t) (done t)) o).reply ≡ reply
        → (t : Table) × (table_of st name ≡ Some t) × (first_some (refusals t) ≡ None) × (about_found st name (λ t. decided st (refusals t) (done t)) o ≡ done t)
    go (Some t) at is = (let w = decided_says st (refusals t) (done t) reply none is in (t, at, w.0, w.1))
    go None at is = absurd (none _ (sym is))

-- ---- tables made and dropped

found_first : (t : Table) (o : Option Table) → if is_named t.name t then Some t else o ≡ Some t
found_first t o = ap (λ b. if b then Some t else o) ((bytes_eq-Decides t.name t.name).1 refl)

found_with : (t : Table) (ts : List Table) → table_named t.name ts ≡ None → table_named t.name (with_table t ts) ≡ Some t
unfolding table_named with_table
found_with t [] new = found_first t None
found_with t (u ∷ us) new = go (is_named t.name u) refl new (found_with t us)
  where
    go : (b : Bool) → is_named t.name u ≡ b → if b then Some u else table_named t.name us ≡ None → (table_named t.name us ≡ None → table_named t.name (with_table t us) ≡ Some t)
        → table_named t.name (if comes_before t.name u.name then t ∷ u ∷ us else u ∷ with_table t us) ≡ Some t
    go true is new rest = absurd cc
    go false is new rest =
        elim (comes_before t.name u.name) as (λ b. table_named t.name (if b then t ∷ u ∷ us else u ∷ with_table t us) ≡ Some t) [
          | true ↦ found_first t (table_named t.name (u ∷ us))
          | false ↦ ap (λ b. if b then Some u else table_named t.name (with_table t us)) is ∙ rest new
        ]

named_made : (x y : List ℕ) → replies.Created x ≡ replies.Created y → x ≡ y
named_made x y e = cc

pub created_there : CreatedTablesAreThere
unfolding answer
created_there st d name is =
    let w = decided_says st (create_refusals st d) (created st d) (replies.Created name) (λ r e. cc) is in
    let same : d.table ≡ name = named_made d.table name (sym (ap (λ (s : Step). s.reply) w.1) ∙ is) in
    let new = made_table d.table (shape_of d) in
    let none = none_exists st d.table (head_free (table_exists st d.table) _ w.0).0 in
    let there : table_of (decided st (create_refusals st d) (created st d)).next d.table ≡ Some new =
    ap (λ (s : Step). table_of s.next d.table) w.1 ∙ tables_more st (Made d.table (shape_of d)) d.table ∙ found_with new (current st).tables none in
    (sym same, subst (λ n. table_of (decided st (create_refusals st d) (created st d)).next n ≡ Some (made_table n (shape_of d))) same there)

named_dropped : (x y : List ℕ) → replies.Dropped x ≡ replies.Dropped y → x ≡ y
named_dropped x y e = cc

behind_differs : (a b : List ℕ) → slice_cmp nat_cmp a b ≡ Less → b ≢ a
behind_differs a b less same =
    let differ : bytes_eq a b ≡ false = sym (is_eq-slice_cmp a b) ∙ ap is_eq less in
    let equal : bytes_eq a b ≡ true = (bytes_eq-Decides a b).1 (sym same) in
    cc

none_above : (name : List ℕ) (ts : List Table) → AllByRecursion (λ n. slice_cmp nat_cmp name n ≡ Less) (map (λ (t : Table). t.name) ts) → table_named name ts ≡ None
unfolding table_named
none_above name [] above = refl
none_above name (t ∷ ts) above = passed_over name t (table_named name ts) (behind_differs name t.name above.0) ∙ none_above name ts above.1

gone_without : (name : List ℕ) (ts : List Table) → IsInNameOrder ts → table_named name (without_table name ts) ≡ None
unfolding table_named without_table IsStrictlySortedBy
gone_without name [] order = refl
gone_without name (t ∷ ts) order = go (is_named name t) refl (gone_without name ts order.1) (none_above t.name ts order.0)
  where
    go : (b : Bool) → is_named name t ≡ b → table_named name (without_table name ts) ≡ None → table_named t.name ts ≡ None → table_named name (if b then ts else t ∷ without_table name ts) ≡ None
    go true is rest above = subst (λ n. table_named n ts ≡ None) (named name t is) above
    go false is rest above = ap (λ b. if b then Some t else table_named name (without_table name ts)) is ∙ rest

pub dropped_gone : DroppedTablesAreGone
unfolding answer
dropped_gone st asked name valid is =
    let w = about_says st asked (drop_refusals st) (dropped st) (replies.Dropped name) (λ r e. cc) is in
    let t = w.0 in
    let same : t.name ≡ name = named_dropped t.name name (sym (ap (λ (s : Step). s.reply) w.3) ∙ is) in
    let gone : table_of (about st asked (λ u. decided st (drop_refusals st u) (dropped st u))).next t.name ≡ None =
    ap (λ (s : Step). table_of s.next t.name) w.3 ∙ tables_more st (Dropped t.name) t.name ∙ gone_without t.name (current st).tables valid.names in
    (sym same ∙ found_name st asked t w.1, subst (λ n. table_of (about st asked (λ u. decided st (drop_refusals st u) (dropped st u))).next n ≡ None) same gone)

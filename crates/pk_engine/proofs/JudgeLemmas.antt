-- Keys are judged by completions.
use Rattle.std.proofs.Common.{◌≡◌, ℕ, Bool, true, false, List, [], ◌∷◌, ◌++◌, Option, Some, None, if◌then◌else◌, refl, sym, subst, ap, ◌∙◌, append_assoc}
use Rattle.std.specs.Option.{option_map}
use Rattle.std.specs.List.{All}
use Rattle.pk_values.specs.declared.broken.Break.{Break}
use Rattle.pk_values.specs.declared.changes.Changes.{Changes}
use Rattle.pk_values.specs.declared.placed.Placed.{Placed}
use Rattle.pk_values.specs.declared.refusal.Refusal.{Refusal}
use Rattle.pk_values.specs.declared.refusal.Refusal.TheVariants.{BrokenKey}
use Rattle.pk_values.specs.Refusals.{first_some}
use Rattle.pk_schema.specs.Shapes.{IsShape}
use Rattle.pk_schema.specs.Admits.{Admits}
use Rattle.pk_exec.specs.Refusals.{work_insert_refusals, work_update_refusals, work_delete_refusals}
use Rattle.pk_guard.specs.Breaks.{first_break}
use Rattle.pk_guard.specs.Changed.{RowsAscend}
use Rattle.pk_guard.specs.Laws.{KeysHoldWhereNothingBreaks, BreaksShowTwoRows}
use Rattle.pk_engine.specs.Base.{Table, changed_by}
use Rattle.pk_engine.specs.State.{State}
use Rattle.pk_engine.specs.Refusing.{Step, refused, decided, about, about_found, table_of}
use Rattle.pk_engine.specs.Limits.{limit_refusals}
use Rattle.pk_engine.specs.Keys.{key_broken, KeepsKeys}
use Rattle.pk_engine.specs.Edits.{is_unchanged, change_refusals, commit_refusals, changes_in, entries_in, insert_entries, insert_refusals, inserted, update_entries, update_refusals, updated_rows, delete_entries, delete_refusals, deleted_rows}
use Rattle.pk_engine.specs.Entries.{AreOf}
use Rattle.pk_engine.specs.Laws.{StatementsMakeEntries}
use Rattle.pk_engine.specs.Valid.{IsValidTable}
use Rattle.pk_engine.specs.Answer.{answer}
use Rattle.pk_engine.specs.KeyLaws.{ShowsBreak, IsJudged, KeysAreJudgedByCompletions}
use Rattle.pk_engine.proofs.AnswerLemmas.{decided_refused, decided_done, decided_front, decided_behind}
use Rattle.pk_engine.proofs.KeptLemmas.{found_valid}
use Rattle.pk_engine.proofs.KeyLemmas.{unbroken_hold, held_unbroken}
use Rattle.pk_engine.proofs.MadeLemmas.{unchanged_by}
use Rattle.pk_engine.proofs.RowLemmas.{changed_is_same, rise_sorted}
use Rattle.pk_engine.proofs.ValidLemmas.{changed_admitted, changed_rise}
use Rattle.pk_values.proofs.RefusalLemmas.{front_free}

-- ---- a table whose keys are judged

-- a key that is refused shows its break
refused_shows : KeysHoldWhereNothingBreaks → BreaksShowTwoRows → (t : Table) → IsShape t.shape → All (λ (p : Placed). Admits t.shape p.row) t.rows → RowsAscend t.rows → ¬ KeepsKeys t → (b : Break) × (key_broken t ≡ Some (BrokenKey t.name b)) × ShowsBreak t b
unfolding key_broken
refused_shows unbroken shows t shape rows ascend fails = go (first_break t.shape t.rows) refl
  where
    go : (o : Option Break) → first_break t.shape t.rows ≡ o → (b : Break) × (option_map (BrokenKey t.name) o ≡ Some (BrokenKey t.name b)) × ShowsBreak t b
    go (Some b) is = (b, refl, shows t.shape t.rows b shape rows ascend is)
    go None is = absurd (fails (unbroken_hold unbroken t shape rows (ap (option_map (BrokenKey t.name)) is)))

-- ---- a statement that changes a table

keys_refuse : (st : State) (front : List (Option Refusal)) (o : Option Refusal) (done : Step) (r : Refusal) → first_some front ≡ None → o ≡ Some r → decided st (front ++ o ∷ []) done ≡ refused st r
keys_refuse st front o done r free is = decided_behind st front (o ∷ []) done free ∙ ap (λ (x : Option Refusal). decided st (x ∷ []) done) is

keys_pass : (st : State) (front : List (Option Refusal)) (o : Option Refusal) (done : Step) → first_some front ≡ None → o ≡ None → decided st (front ++ o ∷ []) done ≡ done
keys_pass st front o done free is = decided_behind st front (o ∷ []) done free ∙ ap (λ (x : Option Refusal). decided st (x ∷ []) done) is

-- the statement's own refusals, the limits, and the keys, in one list
abbrev asked_by : Bool → State → Table → List (Option Refusal) → Changes → List (Option Refusal)
asked_by b st t own c = own ++ (if b then [] else change_refusals st t c)

abbrev before_by : Bool → State → Table → List (Option Refusal) → Changes → List (Option Refusal)
before_by b st t own c = own ++ (if b then [] else limit_refusals st t c)

keys_behind : (st : State) (t : Table) (own : List (Option Refusal)) (c : Changes) → asked_by false st t own c ≡ before_by false st t own c ++ (key_broken (changed_by c t) ∷ [])
keys_behind st t own c = sym (append_assoc own (limit_refusals st t c) (key_broken (changed_by c t) ∷ []))

is_other : (b : Bool) (st : State) (t : Table) (own : List (Option Refusal)) (c : Changes) (done : Step) (r : Refusal) → first_some (before_by b st t own c) ≡ Some r
    → decided st (asked_by b st t own c) done ≡ refused st r
is_other true st t own c done r stands = decided_refused st (own ++ []) done r stands
is_other false st t own c done r stands =
    ap (λ (rs : List (Option Refusal)). decided st rs done) (keys_behind st t own c)
    ∙ decided_front st (before_by false st t own c) (key_broken (changed_by c t) ∷ []) done r stands

is_held : KeysHoldWhereNothingBreaks → (b : Bool) (st : State) (t : Table) (own : List (Option Refusal)) (c : Changes) (done : Step) → IsValidTable t → AreOf t c → first_some (before_by b st t own c) ≡ None
    → KeepsKeys (changed_by c t) → decided st (asked_by b st t own c) done ≡ done
is_held unbroken true st t own c done valid of free keeps = decided_done st (own ++ []) done free
is_held unbroken false st t own c done valid of free keeps =
    let admitted = changed_admitted t c valid of in
    ap (λ (rs : List (Option Refusal)). decided st rs done) (keys_behind st t own c)
    ∙ keys_pass st (before_by false st t own c) (key_broken (changed_by c t)) done free (held_unbroken unbroken (changed_by c t) admitted.0 admitted.1 keeps)

is_broken : KeysHoldWhereNothingBreaks → BreaksShowTwoRows → (b : Bool) (st : State) (t : Table) (own : List (Option Refusal)) (c : Changes) (done : Step) → is_unchanged c ≡ b → IsValidTable t → AreOf t c
    → first_some (before_by b st t own c) ≡ None → ¬ KeepsKeys (changed_by c t)
    → (w : Break) × (decided st (asked_by b st t own c) done ≡ refused st (BrokenKey t.name w)) × ShowsBreak (changed_by c t) w
is_broken unbroken shows true st t own c done same valid of free fails = absurd (fails (subst KeepsKeys (sym (unchanged_by c t same)) valid.keys))
is_broken unbroken shows false st t own c done same valid of free fails =
    let admitted = changed_admitted t c valid of in
    let shown = refused_shows unbroken shows (changed_by c t) admitted.0 admitted.1 (rise_sorted 1 (changed_by c t).next (changed_by c t).rows (changed_rise t c valid of)) fails in
    let is = shown.1 ∙ ap (λ (name : List ℕ). Some (BrokenKey name shown.0)) (changed_is_same c t).0 in (
      shown.0,
      ap (λ (rs : List (Option Refusal)). decided st rs done) (keys_behind st t own c) ∙ keys_refuse st (before_by false st t own c) (key_broken (changed_by c t)) done (BrokenKey t.name shown.0) free is,
      shown.2,
    )

own_free : (b : Bool) (st : State) (t : Table) (own : List (Option Refusal)) (c : Changes) → first_some (before_by b st t own c) ≡ None → first_some own ≡ None
own_free b st t own c free = (front_free own (if b then [] else limit_refusals st t c) free).0

judged : KeysHoldWhereNothingBreaks → BreaksShowTwoRows → (st : State) (t : Table) (own : List (Option Refusal)) (c : Changes) (done answered : Step) → IsValidTable t → (first_some own ≡ None → AreOf t c)
    → answered ≡ decided st (own ++ commit_refusals st t c) done → IsJudged st t own c done answered
judged unbroken shows st t own c done answered valid of is = record {
  other = λ r stands. is ∙ is_other (is_unchanged c) st t own c done r stands;
  held = λ free keeps. is ∙ is_held unbroken (is_unchanged c) st t own c done valid (of (own_free (is_unchanged c) st t own c free)) free keeps;
  broken = λ free fails.
      let w = is_broken unbroken shows (is_unchanged c) st t own c done refl valid (of (own_free (is_unchanged c) st t own c free)) free fails in
      (w.0, is ∙ w.1, w.2);
}

-- ---- INSERT, UPDATE and DELETE

pub about_is : (st : State) (name : List ℕ) (step : Table → Step) (t : Table) → table_of st name ≡ Some t → about st name step ≡ step t
unfolding about
about_is st name step t found = ap (about_found st name step) found

pub keys_are_judged : KeysHoldWhereNothingBreaks → BreaksShowTwoRows → StatementsMakeEntries → KeysAreJudgedByCompletions
unfolding answer
keys_are_judged unbroken shows entries st t valid = record {
  inserts = λ i is_given found.
      let good = found_valid st i.table t valid found in
      judged unbroken shows st t (work_insert_refusals t.shape 0 i) (changes_in t (insert_entries t i)) (inserted st t i) _ good ((entries t good).inserts i is_given)
      (about_is st i.table (λ u. decided st (insert_refusals st u i) (inserted st u i)) t found);
  updates = λ u is_given found.
      let good = found_valid st u.table t valid found in
      judged unbroken shows st t (work_update_refusals t.shape 0 t.rows (entries_in t) u) (changes_in t (update_entries t u)) (updated_rows st t u) _ good ((entries t good).updates u is_given)
      (about_is st u.table (λ x. decided st (update_refusals st x u) (updated_rows st x u)) t found);
  deletes = λ d is_given found.
      let good = found_valid st d.table t valid found in
      judged unbroken shows st t (work_delete_refusals t.shape 0 t.rows (entries_in t) d) (changes_in t (delete_entries t d)) (deleted_rows st t d) _ good (λ free. (entries t good).deletes d)
      (about_is st d.table (λ x. decided st (delete_refusals st x d) (deleted_rows st x d)) t found);
}

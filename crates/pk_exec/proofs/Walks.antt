-- Walks over a view: what stands after each row.
use Rattle.std.proofs.Common.{◌≡◌, ℕ, ◌+◌, ◌<◌, ◌≤◌, true, List, [], ◌∷◌, ◌++◌, All, Some, None, length, refl, sym, ◌∙◌, subst, arith, IsTrue, append-nil}
use Rattle.std.proofs.lemmas.List.Elements.{All-nil, All-append}
use Rattle.pk_values.specs.declared.placed.Placed.{Placed}
use Rattle.pk_values.specs.declared.value.Value.{Value}
use Rattle.pk_values.specs.declared.refusal.Refusal.{Refusal}
use Rattle.pk_world.specs.Rose.{Rose}
use Rattle.pk_schema.specs.Shapes.{Shape}
use Rattle.pk_exec.specs.declared.base.BaseRow.{BaseRow}
use Rattle.pk_exec.specs.declared.change.Change.{Change}
use Rattle.pk_exec.specs.declared.draft.Draft.{Draft}
use Rattle.pk_exec.specs.declared.table_edits.EditedRow.{EditedRow}
use Rattle.pk_exec.specs.declared.view.View.{Ghosts as ViewGhosts}
use Rattle.pk_exec.specs.Rows.{AscendFrom, ids_of, rows_above, next_id, row_of, has_id}
use Rattle.pk_exec.specs.Bases.{IsRowAdmitted, base_at, base_rows, edits_behind}
use Rattle.pk_exec.specs.Drafts.{change_fits, changed_edits, base_refusal, row_refusal, row_taken, IsDraft, IsBaseDrafted}
use Rattle.pk_exec.specs.Works.{edit_ids}
use Rattle.pk_exec.specs.Seen.{IsAdmitted, is_part}
use Rattle.pk_exec.specs.Views.{IsLeft}
use Rattle.pk_exec.proofs.RowsLemmas.{next_row, no_row, from_start}
use Rattle.pk_exec.proofs.BaseLemmas.{bases_left, bases_none, all_behind, front_part}
use Rattle.pk_exec.proofs.DraftLemmas.{drafted_more, drafted_refused, part_more, part_all}
use Rattle.pk_exec.proofs.AdmitLemmas.{edits_admitted}

-- ---- views

pub left_same : {V : Type 0} (g : ViewGhosts V) (v : V) → IsLeft g v v
left_same g v = record { rows = refl; tells = refl; fits = λ s fits. fits; held = refl; faults = omega arith; strays = omega arith }

pub left_trans : {V : Type 0} (g : ViewGhosts V) (u v w : V) → IsLeft g u v → IsLeft g v w → IsLeft g u w
left_trans g u v w a b = record {
  rows = b.rows ∙ a.rows;
  tells = b.tells ∙ a.tells;
  fits = λ s fits. b.fits s (a.fits s fits);
  held = b.held ∙ a.held;
  faults = omega (arith, a.faults, b.faults);
  strays = omega (arith, a.strays, b.strays);
}

-- a count that rose in the last call rose since before
pub rose_since : (a b c : ℕ) → a ≤ b → Rose b c → Rose a c
rose_since a b c before rose = omega (arith, before, rose)

-- ---- what stands after each row of a draft

pub record Drafting {V : Type 0} (g : ViewGhosts V) (c : Change) (edited : List EditedRow) (old new : V) (at : ℕ) (left : List EditedRow) (d : Draft) : Type 0 where
  pub view : IsLeft g old new
  pub told : IsTrue (g.tells old) → IsBaseDrafted c (base_rows edited (g.rows old)) (base_rows left (rows_above at (g.rows old))) d
  pub part : (ks : List ℕ) → is_part ks (ids_of (rows_above at (g.rows old))) ≡ true → is_part (edit_ids d.edited.items ++ ks) (ids_of (g.rows old)) ≡ true
  pub added : d.added.items ≡ []
  pub left_fits : (s : Shape) → All (IsAdmitted s) edited → All (IsAdmitted s) left
  pub edited_fits : (s : Shape) → g.fits old s → All (IsAdmitted s) edited → IsTrue (change_fits s.columns c) → All (IsAdmitted s) d.edited.items

pub drafting_starts :
    {V : Type 0} (g : ViewGhosts V) (c : Change) (edited : List EditedRow) (v : V) (d : Draft) → AscendFrom 1 (g.rows v)
    → IsDraft d [] [] 0 → Drafting g c edited v v 0 edited d
drafting_starts g c edited v d up empty = record {
  view = left_same g v;
  told = λ tells. rw (from_start (g.rows v) up, empty.0, empty.2) (refl, refl, empty.1, omega arith);
  part = λ ks part. rw empty.0 (subst (λ (ps : List Placed). is_part ks (ids_of ps) ≡ true) (from_start (g.rows v) up) part);
  added = empty.1;
  left_fits = λ s all. all;
  edited_fits = λ s fits all change. rw empty.0 (All-nil (IsAdmitted s));
}

-- one row more is done
pub drafting_goes_on :
    {V : Type 0} (g : ViewGhosts V) (c : Change) (edited left : List EditedRow) (v0 v v1 v2 : V) (at n : ℕ) (d e : Draft) (b : BaseRow)
    → AscendFrom 1 (g.rows v0) → Drafting g c edited v0 v at left d
    → next_id at (g.rows v) ≡ Some n → IsLeft g v v1 → IsLeft g v1 v2 → b.id ≡ n
    → (IsTrue (g.tells v1) → (row : List Value) → row_of (g.rows v1) n ≡ Some row → b ≡ base_at left (record { id = n; row = row }))
    → ((s : Shape) → g.fits v1 s → All (IsAdmitted s) left → IsRowAdmitted s b.row)
    → (row_refusal c b.row ≡ None) × IsDraft e (d.edited.items ++ changed_edits c (b ∷ [])) (d.added.items ++ []) (d.taken + row_taken c b.row)
    → Drafting g c edited v0 v2 n (edits_behind left n) e
drafting_goes_on g c edited left v0 v v1 v2 at n d e b up so next read1 read2 id row admitted adds =
    let rows : g.rows v1 ≡ g.rows v0 = read1.rows ∙ so.view.rows in
    let w = next_row at 1 n (g.rows v0) up (subst (λ (ps : List Placed). next_id at ps ≡ Some n) so.view.rows next) in
    let to1 = left_trans g v0 v v1 so.view read1 in
    record {
      view = left_trans g v0 v1 v2 to1 read2;
      told = λ tells.
          drafted_more c (base_rows edited (g.rows v0)) (base_rows (edits_behind left n) (rows_above n (g.rows v0))) b d e
          (subst (λ (bs : List BaseRow). IsBaseDrafted c (base_rows edited (g.rows v0)) bs d)
          (bases_left left (g.rows v0) at n w.placed w.rest b w.next
          (λ r found. row (to1.tells ∙ tells) r (subst (λ (ps : List Placed). row_of ps n ≡ Some r) (sym rows) found)))
          (so.told tells))
          adds.0 adds.1;
      part = λ ks part.
          subst (λ (es : List EditedRow). is_part (edit_ids es ++ ks) (ids_of (g.rows v0)) ≡ true) (sym adds.1.0)
          (part_more c b d.edited.items (ids_of (g.rows v0)) (ids_of (rows_above n (g.rows v0)))
          (λ js some. so.part js (front_part (g.rows v0) at n b.id w.placed w.rest js w.next id some))
          ks part);
      added = adds.1.1 ∙ append-nil d.added.items ∙ so.added;
      left_fits = λ s all. all_behind (IsAdmitted s) left n (so.left_fits s all);
      edited_fits = λ s fits all change.
          subst (All (IsAdmitted s)) (sym adds.1.0)
          (All-append (IsAdmitted s) d.edited.items (changed_edits c (b ∷ [])) (so.edited_fits s fits all change)
          (edits_admitted s c b (admitted s (to1.fits s fits) (so.left_fits s all)) change));
    }

-- all rows are done
pub drafting_told :
    {V : Type 0} (g : ViewGhosts V) (c : Change) (edited left : List EditedRow) (v0 v : V) (at : ℕ) (d : Draft) → Drafting g c edited v0 v at left d
    → next_id at (g.rows v) ≡ None → IsTrue (g.tells v0) → IsBaseDrafted c (base_rows edited (g.rows v0)) [] d
drafting_told g c edited left v0 v at d so next tells =
    subst (λ (bs : List BaseRow). IsBaseDrafted c (base_rows edited (g.rows v0)) bs d)
    (bases_none left (g.rows v0) at (no_row at (g.rows v0) (subst (λ (ps : List Placed). next_id at ps ≡ None) so.view.rows next)))
    (so.told tells)

pub drafting_part :
    {V : Type 0} (g : ViewGhosts V) (c : Change) (edited left : List EditedRow) (v0 v : V) (at : ℕ) (d : Draft) → Drafting g c edited v0 v at left d
    → next_id at (g.rows v) ≡ None → is_part (edit_ids d.edited.items) (ids_of (g.rows v0)) ≡ true
drafting_part g c edited left v0 v at d so next =
    part_all d.edited.items (ids_of (g.rows v0))
    (λ ks part. so.part ks
    (subst (λ (ps : List Placed). is_part ks (ids_of ps) ≡ true)
    (sym (no_row at (g.rows v0) (subst (λ (ps : List Placed). next_id at ps ≡ None) so.view.rows next)))
    part))

-- ---- the row that is met

next_now : (old new : List Placed) (at n : ℕ) → new ≡ old → next_id at old ≡ Some n → next_id at new ≡ Some n
next_now old new at n same next = subst (λ (ps : List Placed). next_id at ps ≡ Some n) (sym same) next

-- it is one of the rows
pub met_there : (old new : List Placed) (at n : ℕ) → AscendFrom 1 old → new ≡ old → next_id at old ≡ Some n → has_id new n ≡ true
met_there old new at n up same next = subst (λ (ps : List Placed). has_id ps n ≡ true) (sym same) (next_row at 1 n old up next).next.there

-- fewer are left behind it
pub fewer_left : (old new : List Placed) (at n : ℕ) → AscendFrom 1 old → new ≡ old → next_id at old ≡ Some n → length (rows_above n new) < length (rows_above at old)
fewer_left old new at n up same next =
    let w = next_row at 1 n old up next in
    subst (λ (ps : List Placed). length (rows_above n ps) < length (rows_above at old)) (sym same)
    (rw (w.next.above, w.next.behind) (omega arith))

-- a row is refused
pub drafting_refused :
    {V : Type 0} (g : ViewGhosts V) (c : Change) (edited left : List EditedRow) (v0 v v1 : V) (at n : ℕ) (d : Draft) (b : BaseRow) (r : Refusal)
    → AscendFrom 1 (g.rows v0) → Drafting g c edited v0 v at left d
    → next_id at (g.rows v) ≡ Some n → IsLeft g v v1
    → (IsTrue (g.tells v1) → (row : List Value) → row_of (g.rows v1) n ≡ Some row → b ≡ base_at left (record { id = n; row = row }))
    → row_refusal c b.row ≡ Some r → IsTrue (g.tells v0) → base_refusal c (base_rows edited (g.rows v0)) ≡ Some r
drafting_refused g c edited left v0 v v1 at n d b r up so next read row some tells =
    let rows : g.rows v1 ≡ g.rows v0 = read.rows ∙ so.view.rows in
    let w = next_row at 1 n (g.rows v0) up (subst (λ (ps : List Placed). next_id at ps ≡ Some n) so.view.rows next) in
    drafted_refused c (base_rows edited (g.rows v0)) (base_rows (edits_behind left n) (rows_above n (g.rows v0))) b d r
    (subst (λ (bs : List BaseRow). IsBaseDrafted c (base_rows edited (g.rows v0)) bs d)
    (bases_left left (g.rows v0) at n w.placed w.rest b w.next
    (λ x found. row (read.tells ∙ so.view.tells ∙ tells) x (subst (λ (ps : List Placed). row_of ps n ≡ Some x) (sym rows) found)))
    (so.told tells))
    some

-- Walks that take rows.
use Rattle.std.proofs.Common.{◌≡◌, ℕ, ◌+◌, ◌<◌, Bool, true, false, List, [], ◌∷◌, ◌++◌, All, Option, Some, None, drop, get_or, length, length-append, add-zero, refl, ap, sym, ◌∙◌, subst, arith, IsTrue, append_assoc, append-nil, if◌then◌else◌}
use Rattle.std.specs.List.{cons_option}
use Rattle.std.proofs.lemmas.List.{drop_more}
use Rattle.std.proofs.lemmas.List.Elements.{All-nil, All-cons, All-head, All-tail, All-append, All-weaker}
use Rattle.pk_values.specs.declared.placed.Placed.{Placed}
use Rattle.pk_values.specs.declared.value.Value.{Value}
use Rattle.pk_logic.specs.declared.condition.Cond.{Cond}
use Rattle.pk_schema.specs.Shapes.{Shape}
use Rattle.pk_schema.specs.Admits.{Admits}
use Rattle.pk_bind.specs.Fitting.{cond_fits}
use Rattle.pk_exec.specs.declared.base.BaseRow.{BaseRow}
use Rattle.pk_exec.specs.declared.table_edits.EditedRow.{EditedRow}
use Rattle.pk_exec.specs.declared.view.View.{Ghosts as ViewGhosts}
use Rattle.pk_exec.specs.Rows.{AscendFrom, rows_above, next_id, row_of}
use Rattle.pk_exec.specs.Bases.{IsRowAdmitted, base_at, base_rows, edits_behind, rows_in}
use Rattle.pk_exec.specs.Edits.{takes}
use Rattle.pk_exec.specs.Fates.{CanJudge}
use Rattle.pk_exec.specs.Reading.{kept_rows, row_list, CanJudgeRow, CanTake}
use Rattle.pk_exec.specs.Seen.{IsAdmitted}
use Rattle.pk_exec.specs.Views.{IsLeft}
use Rattle.pk_exec.proofs.RowsLemmas.{next_row, no_row, from_start}
use Rattle.pk_exec.proofs.BaseLemmas.{bases_left, bases_none, all_behind}
use Rattle.pk_exec.proofs.AdmitLemmas.{can_judge}
use Rattle.pk_exec.proofs.EntryLemmas.{kept_append}
use Rattle.pk_exec.proofs.Walks.{left_same, left_trans}

-- ---- what may be judged

can_judge_none : (row : Option (List Value)) → CanJudgeRow None row
can_judge_none None = tt
can_judge_none (Some row) = tt

can_judge_row : (s : Shape) (cond : Cond) (row : Option (List Value)) → IsRowAdmitted s row → cond_fits s.columns (Some cond) ≡ true → CanJudgeRow (Some cond) row
can_judge_row s cond None admits fits = tt
can_judge_row s cond (Some row) admits fits = can_judge s row (Some cond) admits fits

-- the condition may be judged of the row that is met
pub can_take_row :
    {V : Type 0} (g : ViewGhosts V) (v : V) (edited : List EditedRow) (added : List (List Value)) (cond : Option Cond) (row : Option (List Value))
    → CanTake g v edited added cond → ((s : Shape) → g.fits v s → All (IsAdmitted s) edited → IsRowAdmitted s row) → CanJudgeRow cond row
can_take_row g v edited added None row can admitted = can_judge_none row
can_take_row g v edited added (Some cond) row can admitted = can_judge_row can.0 cond row (admitted can.0 can.1 can.2) can.4

-- and of each new row
pub can_take_added :
    {V : Type 0} (g : ViewGhosts V) (v : V) (edited : List EditedRow) (added : List (List Value)) (cond : Option Cond) → CanTake g v edited added cond → All (CanJudge cond) added
can_take_added g v edited added None can = λ k d within. tt
can_take_added g v edited added (Some cond) can =
    All-weaker (Admits can.0) (CanJudge (Some cond)) (λ row one. can_judge can.0 row (Some cond) one can.4) added can.3

-- for the rows of the base alone
pub can_take_base :
    {V : Type 0} (g : ViewGhosts V) (v : V) (edited : List EditedRow) (added : List (List Value)) (cond : Option Cond) → CanTake g v edited added cond → CanTake g v edited [] cond
can_take_base g v edited added None can = tt
can_take_base g v edited added (Some cond) can = (can.0, can.1, can.2, All-nil (Admits can.0), can.4)

-- ---- what is kept

pub kept_more : (cond : Option Cond) (xs ys : List (List Value)) → kept_rows cond (xs ++ ys) ≡ kept_rows cond xs ++ kept_rows cond ys
kept_more cond xs ys = kept_append (takes cond) xs ys

rows_cons : (o : Option (List Value)) (rest : List (List Value)) → cons_option o rest ≡ row_list o ++ rest
rows_cons None rest = refl
rows_cons (Some row) rest = refl

-- the rows kept of the base, one behind the other
base_kept : (cond : Option Cond) (b : BaseRow) (bs : List BaseRow)
    → kept_rows cond (rows_in (b ∷ bs)) ≡ kept_rows cond (row_list b.row) ++ kept_rows cond (rows_in bs)
base_kept cond b bs = ap (kept_rows cond) (rows_cons b.row (rows_in bs)) ∙ kept_more cond (row_list b.row) (rows_in bs)

one_admitted : (s : Shape) (cond : Option Cond) (row : List Value) → Admits s row → All (Admits s) (kept_rows cond (row ∷ []))
one_admitted s cond row admits = elim (takes cond row) as (λ b. All (Admits s) (if b then row ∷ [] else [])) [
  | true ↦ All-cons (Admits s) row [] admits (All-nil (Admits s))
  | false ↦ All-nil (Admits s)
]

row_admitted : (s : Shape) (cond : Option Cond) (row : Option (List Value)) → IsRowAdmitted s row → All (Admits s) (kept_rows cond (row_list row))
row_admitted s cond None admits = All-nil (Admits s)
row_admitted s cond (Some row) admits = one_admitted s cond row admits

-- the new rows that are kept are admitted
pub added_kept_admitted : (s : Shape) (cond : Option Cond) (rows : List (List Value)) → All (Admits s) rows → All (Admits s) (kept_rows cond rows)
added_kept_admitted s cond [] all = All-nil (Admits s)
added_kept_admitted s cond (row ∷ rows) all =
    subst (All (Admits s)) (sym (kept_more cond (row ∷ []) rows))
    (All-append (Admits s) (kept_rows cond (row ∷ [])) (kept_rows cond rows) (one_admitted s cond row (All-head (Admits s) row rows all))
    (added_kept_admitted s cond rows (All-tail (Admits s) row rows all)))

-- ---- what stands after each row

pub record Taking {V : Type 0} (g : ViewGhosts V) (cond : Option Cond) (edited : List EditedRow) (old_rows : List (List Value)) (old new : V) (at : ℕ) (left : List EditedRow) (rows : List (List Value)) : Type 0 where
  pub view : IsLeft g old new
  pub told : IsTrue (g.tells old)
      → old_rows ++ kept_rows cond (rows_in (base_rows edited (g.rows old))) ≡ rows ++ kept_rows cond (rows_in (base_rows left (rows_above at (g.rows old))))
  pub left_fits : (s : Shape) → All (IsAdmitted s) edited → All (IsAdmitted s) left
  pub fits : (s : Shape) → g.fits old s → All (IsAdmitted s) edited → All (Admits s) old_rows → All (Admits s) rows

pub taking_starts :
    {V : Type 0} (g : ViewGhosts V) (cond : Option Cond) (edited : List EditedRow) (rows : List (List Value)) (v : V) → AscendFrom 1 (g.rows v)
    → Taking g cond edited rows v v 0 edited rows
taking_starts g cond edited rows v up = record {
  view = left_same g v;
  told = λ tells. rw (from_start (g.rows v) up) refl;
  left_fits = λ s all. all;
  fits = λ s fits all rows. rows;
}

pub taking_goes_on :
    {V : Type 0} (g : ViewGhosts V) (cond : Option Cond) (edited left : List EditedRow) (old_rows rows more : List (List Value)) (v0 v v1 v2 : V) (at n : ℕ) (b : BaseRow)
    → AscendFrom 1 (g.rows v0) → Taking g cond edited old_rows v0 v at left rows
    → next_id at (g.rows v) ≡ Some n → IsLeft g v v1 → IsLeft g v1 v2
    → (IsTrue (g.tells v1) → (row : List Value) → row_of (g.rows v1) n ≡ Some row → b ≡ base_at left (record { id = n; row = row }))
    → ((s : Shape) → g.fits v1 s → All (IsAdmitted s) left → IsRowAdmitted s b.row)
    → more ≡ rows ++ kept_rows cond (row_list b.row)
    → Taking g cond edited old_rows v0 v2 n (edits_behind left n) more
taking_goes_on g cond edited left old_rows rows more v0 v v1 v2 at n b up so next read1 read2 row admitted takes_one =
    let same : g.rows v1 ≡ g.rows v0 = read1.rows ∙ so.view.rows in
    let w = next_row at 1 n (g.rows v0) up (subst (λ (ps : List Placed). next_id at ps ≡ Some n) so.view.rows next) in
    let to1 = left_trans g v0 v v1 so.view read1 in
    let rest = base_rows (edits_behind left n) (rows_above n (g.rows v0)) in
    record {
      view = left_trans g v0 v1 v2 to1 read2;
      told = λ tells.
          so.told tells
          ∙ ap (λ (bs : List BaseRow). rows ++ kept_rows cond (rows_in bs))
          (bases_left left (g.rows v0) at n w.placed w.rest b w.next
          (λ r found. row (to1.tells ∙ tells) r (subst (λ (ps : List Placed). row_of ps n ≡ Some r) (sym same) found)))
          ∙ ap (λ (xs : List (List Value)). rows ++ xs) (base_kept cond b rest)
          ∙ sym (append_assoc rows (kept_rows cond (row_list b.row)) (kept_rows cond (rows_in rest)))
          ∙ ap (λ (xs : List (List Value)). xs ++ kept_rows cond (rows_in rest)) (sym takes_one);
      left_fits = λ s all. all_behind (IsAdmitted s) left n (so.left_fits s all);
      fits = λ s fits all before.
          subst (All (Admits s)) (sym takes_one)
          (All-append (Admits s) rows (kept_rows cond (row_list b.row)) (so.fits s fits all before)
          (row_admitted s cond b.row (admitted s (to1.fits s fits) (so.left_fits s all))));
    }

pub taking_told :
    {V : Type 0} (g : ViewGhosts V) (cond : Option Cond) (edited left : List EditedRow) (old_rows rows : List (List Value)) (v0 v : V) (at : ℕ)
    → Taking g cond edited old_rows v0 v at left rows → next_id at (g.rows v) ≡ None → IsTrue (g.tells v0)
    → rows ≡ old_rows ++ kept_rows cond (rows_in (base_rows edited (g.rows v0)))
taking_told g cond edited left old_rows rows v0 v at so next tells =
    sym (so.told tells
    ∙ ap (λ (bs : List BaseRow). rows ++ kept_rows cond (rows_in bs))
    (bases_none left (g.rows v0) at (no_row at (g.rows v0) (subst (λ (ps : List Placed). next_id at ps ≡ None) so.view.rows next)))
    ∙ append-nil rows)

-- ---- what stands after each row that is counted

pub record Counting {V : Type 0} (g : ViewGhosts V) (cond : Option Cond) (edited : List EditedRow) (before : ℕ) (old new : V) (at : ℕ) (left : List EditedRow) (n : ℕ) : Type 0 where
  pub view : IsLeft g old new
  pub told : IsTrue (g.tells old)
      → before + length (kept_rows cond (rows_in (base_rows edited (g.rows old)))) ≡ n + length (kept_rows cond (rows_in (base_rows left (rows_above at (g.rows old)))))
  pub left_fits : (s : Shape) → All (IsAdmitted s) edited → All (IsAdmitted s) left

pub counting_starts :
    {V : Type 0} (g : ViewGhosts V) (cond : Option Cond) (edited : List EditedRow) (n : ℕ) (v : V) → AscendFrom 1 (g.rows v) → Counting g cond edited n v v 0 edited n
counting_starts g cond edited n v up = record {
  view = left_same g v;
  told = λ tells. rw (from_start (g.rows v) up) refl;
  left_fits = λ s all. all;
}

pub counting_goes_on :
    {V : Type 0} (g : ViewGhosts V) (cond : Option Cond) (edited left : List EditedRow) (before n more : ℕ) (v0 v v1 v2 : V) (at id : ℕ) (b : BaseRow)
    → AscendFrom 1 (g.rows v0) → Counting g cond edited before v0 v at left n
    → next_id at (g.rows v) ≡ Some id → IsLeft g v v1 → IsLeft g v1 v2
    → (IsTrue (g.tells v1) → (row : List Value) → row_of (g.rows v1) id ≡ Some row → b ≡ base_at left (record { id = id; row = row }))
    → more ≡ n + length (kept_rows cond (row_list b.row))
    → Counting g cond edited before v0 v2 id (edits_behind left id) more
counting_goes_on g cond edited left before n more v0 v v1 v2 at id b up so next read1 read2 row counts =
    let same : g.rows v1 ≡ g.rows v0 = read1.rows ∙ so.view.rows in
    let w = next_row at 1 id (g.rows v0) up (subst (λ (ps : List Placed). next_id at ps ≡ Some id) so.view.rows next) in
    let to1 = left_trans g v0 v v1 so.view read1 in
    let rest = base_rows (edits_behind left id) (rows_above id (g.rows v0)) in
    let one = kept_rows cond (row_list b.row) in
    let others = kept_rows cond (rows_in rest) in
    record {
      view = left_trans g v0 v1 v2 to1 read2;
      told = λ tells.
          so.told tells
          ∙ ap (λ (bs : List BaseRow). n + length (kept_rows cond (rows_in bs)))
          (bases_left left (g.rows v0) at id w.placed w.rest b w.next
          (λ r found. row (to1.tells ∙ tells) r (subst (λ (ps : List Placed). row_of ps id ≡ Some r) (sym same) found)))
          ∙ ap (λ (xs : List (List Value)). n + length xs) (base_kept cond b rest)
          ∙ counted_more n more one others counts;
      left_fits = λ s all. all_behind (IsAdmitted s) left id (so.left_fits s all);
    }
  where
    counted_more : (n more : ℕ) (xs ys : List (List Value)) → more ≡ n + length xs → n + length (xs ++ ys) ≡ more + length ys
    counted_more n more xs ys is = omega (arith, is, length-append xs ys)

pub counting_told :
    {V : Type 0} (g : ViewGhosts V) (cond : Option Cond) (edited left : List EditedRow) (before n : ℕ) (v0 v : V) (at : ℕ)
    → Counting g cond edited before v0 v at left n → next_id at (g.rows v) ≡ None → IsTrue (g.tells v0)
    → n ≡ before + length (kept_rows cond (rows_in (base_rows edited (g.rows v0))))
counting_told g cond edited left before n v0 v at so next tells =
    sym (so.told tells
    ∙ ap (λ (bs : List BaseRow). n + length (kept_rows cond (rows_in bs)))
    (bases_none left (g.rows v0) at (no_row at (g.rows v0) (subst (λ (ps : List Placed). next_id at ps ≡ None) so.view.rows next)))
    ∙ add-zero n)

-- ---- one row more is counted

-- the new rows counted so far and those to come are all
pub counts_on : (cond : Option Cond) (rows : List (List Value)) (i : ℕ) (row : List Value) (n more all : ℕ) → i < length rows → row ≡ get_or rows i row
    → more ≡ n + (if takes cond row then 1 else 0) → n + length (kept_rows cond (drop i rows)) ≡ all → more + length (kept_rows cond (drop (i + 1) rows)) ≡ all
counts_on cond rows i row n more all within is counts so =
    sym (subst (λ (rs : List (List Value)). n + length (kept_rows cond rs) ≡ more + length (kept_rows cond (drop (i + 1) rows)))
    (sym (drop_more rows i row within ∙ ap (λ r. r ∷ drop (i + 1) rows) (sym is)))
    (step (takes cond row) (kept_rows cond (drop (i + 1) rows)) counts))
    ∙ so
  where
    step : (b : Bool) (rest : List (List Value)) → more ≡ n + (if b then 1 else 0) → n + length (if b then row ∷ rest else rest) ≡ more + length rest
    step true rest is = omega (arith, is)
    step false rest is = omega (arith, is)

-- a row by itself
pub counts_one : (cond : Option Cond) (row : List Value) → (if takes cond row then 1 else 0) ≡ length (kept_rows cond (row ∷ []))
counts_one cond row = elim (takes cond row) as (λ b. (if b then 1 else 0) ≡ length (if b then row ∷ [] else [])) [ true ↦ refl | false ↦ refl ]

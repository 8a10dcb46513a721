-- What a change may do to rows that a schema admits, and what it leaves.
use Rattle.std.proofs.Common.{◌≡◌, ℕ, ◌<◌, Bool, true, false, ◌&&◌, List, [], ◌∷◌, All, Option, Some, None, length, nat_le, slice_get, refl, subst, arith, IfSome, if◌then◌else◌}
use Rattle.std.specs.List.{list_all, cons_option}
use Rattle.std.proofs.lemmas.Bool.{and_parts, leb-true}
use Rattle.std.proofs.lemmas.List.Elements.{All-nil, All-cons, All-head, All-tail, All-append, All-weaker}
use Rattle.std.proofs.lemmas.Option.{slice_get_within}
use Rattle.pk_values.specs.declared.value.Value.{Value}
use Rattle.pk_values.specs.Records.{row_record}
use Rattle.pk_syntax.specs.declared.declaration.ColumnDecl.{ColumnDecl}
use Rattle.pk_logic.specs.declared.condition.Cond.{Cond}
use Rattle.pk_schema.specs.Shapes.{Shape}
use Rattle.pk_schema.specs.Admits.{Admits}
use Rattle.pk_bind.specs.declared.edit.SetTo.{SetTo}
use Rattle.pk_bind.specs.Fitting.{cond_fits, edit_fits, set_fits, with_sets, holds_at}
use Rattle.pk_bind.proofs.SetLemmas.{set_row_admitted, bound_judgeable}
use Rattle.pk_bind.proofs.HeldLemmas.{admits_held}
use Rattle.pk_exec.specs.declared.base.BaseRow.{BaseRow}
use Rattle.pk_exec.specs.declared.change.Change.{Change}
use Rattle.pk_exec.specs.declared.change.Fate.{Fate}
use Rattle.pk_exec.specs.declared.change.Fate.TheVariants.{Left, Put, Gone, Long}
use Rattle.pk_exec.specs.Bases.{edit_by, IsRowAdmitted}
use Rattle.pk_exec.specs.Edits.{takes}
use Rattle.pk_exec.specs.Fates.{CanJudge, CanSet, CanChange, fate_of, put_fate, taken_fate}
use Rattle.pk_exec.specs.Drafts.{change_fits, sets_fit, base_by, base_by_fate, changed_base, changed_edits, changed_added, added_by_fate}
use Rattle.pk_exec.specs.Seen.{IsAdmitted}

-- ---- what may be done

pub can_judge : (s : Shape) (row : List Value) (cond : Option Cond) → Admits s row → cond_fits s.columns cond ≡ true → CanJudge cond row
can_judge s row None admits fits = tt
can_judge s row (Some cond) admits fits = bound_judgeable s row cond admits fits

column_within : (columns : List ColumnDecl) (c : ℕ) (v : Value) (o : Option ColumnDecl) → slice_get columns c ≡ o → holds_at o v ≡ true → c < length columns
column_within columns c v None is holds = absurd (cc)
column_within columns c v (Some column) is holds = slice_get_within columns c column is

can_set : (s : Shape) (width : ℕ) (sets : List SetTo) → width ≡ length s.columns → list_all (set_fits s.columns) sets ≡ true → All (λ (x : SetTo). x.column < width) sets
can_set s width [] is fits = All-nil (λ (x : SetTo). x.column < width)
can_set s width (x ∷ xs) is fits =
    let w = and_parts (set_fits s.columns x) (list_all (set_fits s.columns) xs) fits in
    All-cons (λ (y : SetTo). y.column < width) x xs
    (omega (arith, is, column_within s.columns x.column x.value (slice_get s.columns x.column) refl w.0))
    (can_set s width xs is w.1)

can_sets : (s : Shape) (row : List Value) (sets : Option (List SetTo)) → Admits s row → sets_fit s.columns sets ≡ true → IfSome sets (λ xs. CanSet xs row)
can_sets s row None admits fits = tt
can_sets s row (Some sets) admits fits = can_set s (length row) sets (admits_held s row admits).0 fits

-- a change that fits the columns may be made in each row that they admit
pub can_change : (s : Shape) (c : Change) (row : List Value) → Admits s row → change_fits s.columns c ≡ true → CanChange c row
can_change s c row admits fits =
    let w = and_parts (sets_fit s.columns c.sets) (cond_fits s.columns c.cond) fits in
    (can_judge s row c.cond admits w.1, can_sets s row c.sets admits w.0)

pub can_change_row : (s : Shape) (c : Change) (row : Option (List Value)) → IsRowAdmitted s row → change_fits s.columns c ≡ true → IfSome row (CanChange c)
can_change_row s c None admits fits = tt
can_change_row s c (Some row) admits fits = can_change s c row admits fits

-- ---- what is left is admitted

-- the row that a fate leaves, where it leaves one, is admitted
abbrev IsFateAdmitted : Shape → Fate → Type 0
IsFateAdmitted s (Left row) = Admits s row
IsFateAdmitted s (Put row) = Admits s row
IsFateAdmitted s Gone = Unit {0}
IsFateAdmitted s (Long bytes) = Unit {0}

put_admitted : (s : Shape) (cond : Option Cond) (sets : List SetTo) (row : List Value) → Admits s row
    → edit_fits s.columns (record { sets = sets; cond = cond }) ≡ true → IsFateAdmitted s (put_fate sets row)
put_admitted s cond sets row admits fits = split (nat_le (length (row_record (with_sets sets row))) 4000) refl
  where
    split : (b : Bool) → nat_le (length (row_record (with_sets sets row))) 4000 ≡ b
        → IsFateAdmitted s (if b then Put (with_sets sets row) else Long (length (row_record (with_sets sets row))))
    split true few = set_row_admitted s row (record { sets = sets; cond = cond }) admits fits (leb-true _ _ few)
    split false many = tt

taken_admitted : (s : Shape) (cond : Option Cond) (sets : Option (List SetTo)) (row : List Value) → Admits s row
    → (sets_fit s.columns sets && cond_fits s.columns cond) ≡ true → IsFateAdmitted s (taken_fate sets row)
taken_admitted s cond None row admits fits = tt
taken_admitted s cond (Some sets) row admits fits = put_admitted s cond sets row admits fits

fate_admitted : (s : Shape) (c : Change) (row : List Value) → Admits s row → change_fits s.columns c ≡ true → IsFateAdmitted s (fate_of c row)
unfolding fate_of
fate_admitted s c row admits fits = elim (takes c.cond row) as (λ b. IsFateAdmitted s (if b then taken_fate c.sets row else Left row)) [
  | true ↦ taken_admitted s c.cond c.sets row admits fits
  | false ↦ admits
]

by_fate_admitted : (s : Shape) (b : BaseRow) (fate : Fate) → IsRowAdmitted s b.row → IsFateAdmitted s fate → IsRowAdmitted s (base_by_fate b fate).row
by_fate_admitted s b (Left row) before after = before
by_fate_admitted s b (Put row) before after = after
by_fate_admitted s b Gone before after = tt
by_fate_admitted s b (Long bytes) before after = before

-- a row of the base after the change is admitted
changed_row_admitted : (s : Shape) (c : Change) (b : BaseRow) (o : Option (List Value)) → b.row ≡ o → IsRowAdmitted s b.row → change_fits s.columns c ≡ true
    → IsRowAdmitted s (base_by c b o).row
changed_row_admitted s c b None is admits fits = admits
changed_row_admitted s c b (Some row) is admits fits =
    let one : Admits s row = subst (IsRowAdmitted s) is admits in
    by_fate_admitted s b (fate_of c row) admits (fate_admitted s c row one fits)

edit_admitted : (s : Shape) (edited : Bool) (id : ℕ) (row : Option (List Value)) → IsRowAdmitted s row → All (IsAdmitted s) (cons_option (edit_by edited id row) [])
edit_admitted s false id row admits = All-nil (IsAdmitted s)
edit_admitted s true id row admits = All-cons (IsAdmitted s) (record { id = id; row = row }) [] admits (All-nil (IsAdmitted s))

-- the edit of a row after the change is admitted
pub edits_admitted : (s : Shape) (c : Change) (b : BaseRow) → IsRowAdmitted s b.row → change_fits s.columns c ≡ true → All (IsAdmitted s) (changed_edits c (b ∷ []))
edits_admitted s c b admits fits =
    let x = changed_base c b in
    edit_admitted s x.edited x.id x.row (changed_row_admitted s c b b.row refl admits fits)

added_admitted : (s : Shape) (fate : Fate) → IsFateAdmitted s fate → All (Admits s) (added_by_fate fate)
added_admitted s (Left row) admits = All-cons (Admits s) row [] admits (All-nil (Admits s))
added_admitted s (Put row) admits = All-cons (Admits s) row [] admits (All-nil (Admits s))
added_admitted s Gone admits = All-nil (Admits s)
added_admitted s (Long bytes) admits = All-nil (Admits s)

-- the new rows after the change are admitted
pub changed_added_admitted : (s : Shape) (c : Change) (rows : List (List Value)) → All (Admits s) rows → change_fits s.columns c ≡ true → All (Admits s) (changed_added c rows)
changed_added_admitted s c [] admits fits = All-nil (Admits s)
changed_added_admitted s c (row ∷ rows) admits fits =
    All-append (Admits s) (added_by_fate (fate_of c row)) (changed_added c rows)
    (added_admitted s (fate_of c row) (fate_admitted s c row (All-head (Admits s) row rows admits) fits))
    (changed_added_admitted s c rows (All-tail (Admits s) row rows admits) fits)

-- the change may be made in each new row
pub can_change_all : (s : Shape) (c : Change) (rows : List (List Value)) → All (Admits s) rows → change_fits s.columns c ≡ true → All (CanChange c) rows
can_change_all s c rows admits fits = All-weaker (Admits s) (CanChange c) (λ row one. can_change s c row one fits) rows admits

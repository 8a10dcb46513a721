-- An admitted row, with new values in its columns and under conditions.
use Rattle.std.proofs.Common.{◌≡◌, refl, ◌∙◌, ap, ℕ, zero, suc, ◌≤◌, true, not, List, [], ◌∷◌, length, Some, arith}
use Rattle.std.specs.Prelude.{slice_get, slice_set}
use Rattle.std.specs.List.{list_all}
use Rattle.std.proofs.lemmas.Bool.{and_parts, and_from, le-leb, not-true, not-false}
use Rattle.pk_values.specs.declared.value.Value.{Value}
use Rattle.pk_values.specs.Records.{row_record}
use Rattle.pk_values.specs.Values.{fits_kind, fits_kinds}
use Rattle.pk_syntax.specs.declared.declaration.ColumnDecl.{ColumnDecl}
use Rattle.pk_logic.specs.declared.condition.Cond.{Cond}
use Rattle.pk_logic.specs.Conditions.{is_judgeable}
use Rattle.pk_logic.proofs.KindLemmas.{may_be_judged}
use Rattle.pk_schema.specs.Shapes.{Shape, kinds_of}
use Rattle.pk_schema.specs.Admits.{Admits}
use Rattle.pk_bind.specs.declared.edit.Edit.{Edit}
use Rattle.pk_bind.specs.declared.edit.SetTo.{SetTo}
use Rattle.pk_bind.specs.Fitting.{may_hold, holds_at, set_fits, cond_fits, edit_fits, with_sets}
use Rattle.pk_bind.proofs.HeldLemmas.{held, three, held_admits, admits_held}

-- ---- new values

set_length : {X : Type 0} (xs : List X) (i : ℕ) (x : X) → length (slice_set xs i x) ≡ length xs
set_length [] i x = refl
set_length (y ∷ ys) zero x = refl
set_length (y ∷ ys) (suc i) x = ap suc (set_length ys i x)

set_held : (columns : List ColumnDecl) (row : List Value) (i : ℕ) (v : Value) → held columns row ≡ true → holds_at (slice_get columns i) v ≡ true
    → held columns (slice_set row i v) ≡ true
set_held [] row i v all fits = refl
set_held (c ∷ cs) [] i v all fits = refl
set_held (c ∷ cs) (w ∷ ws) zero v all fits = and_from (may_hold c v) (held cs ws) fits (and_parts (may_hold c w) (held cs ws) all).1
set_held (c ∷ cs) (w ∷ ws) (suc i) v all fits =
    let parts = and_parts (may_hold c w) (held cs ws) all in
    and_from (may_hold c w) (held cs (slice_set ws i v)) parts.0 (set_held cs ws i v parts.1 fits)

sets_held : (columns : List ColumnDecl) (sets : List SetTo) (row : List Value) → length row ≡ length columns → held columns row ≡ true
    → list_all (set_fits columns) sets ≡ true → (length (with_sets sets row) ≡ length columns) × (held columns (with_sets sets row) ≡ true)
sets_held columns [] row same all fit = (same, all)
sets_held columns (s ∷ ss) row same all fit =
    let parts = and_parts (set_fits columns s) (list_all (set_fits columns) ss) fit in
    sets_held columns ss (slice_set row s.column s.value) (set_length row s.column s.value ∙ same) (set_held columns row s.column s.value all parts.0) parts.1

pub set_row_admitted : (s : Shape) (row : List Value) (e : Edit) → Admits s row → edit_fits s.columns e ≡ true
    → length (row_record (with_sets e.sets row)) ≤ 4000 → Admits s (with_sets e.sets row)
set_row_admitted s row e admitted fits small =
    let before = admits_held s row admitted in
    let sets = (and_parts (list_all (set_fits s.columns) e.sets) (cond_fits s.columns e.cond) fits).0 in
    let after = sets_held s.columns e.sets row before.0 before.1 sets in
    held_admits s (with_sets e.sets row) after.0 after.1 (le-leb (length (row_record (with_sets e.sets row))) 4000 small)

-- ---- conditions

held_kinds : (columns : List ColumnDecl) (row : List Value) → length row ≡ length columns → held columns row ≡ true → fits_kinds (kinds_of columns) row ≡ true
held_kinds [] [] same all = refl
held_kinds [] (v ∷ vs) same all = absurd cc
held_kinds (c ∷ cs) [] same all = absurd cc
held_kinds (c ∷ cs) (v ∷ vs) same all =
    let parts = and_parts (may_hold c v) (held cs vs) all in
    and_from (fits_kind c.kind v) (fits_kinds (kinds_of cs) vs)
    (not-false (fits_kind c.kind v) (not-true (not (fits_kind c.kind v)) (three c v parts.0).0))
    (held_kinds cs vs (omega (arith, same)) parts.1)

pub bound_judgeable : (s : Shape) (row : List Value) (cond : Cond) → Admits s row → cond_fits s.columns (Some cond) ≡ true → is_judgeable row cond ≡ true
bound_judgeable s row cond admitted fits =
    let has = admits_held s row admitted in
    may_be_judged (kinds_of s.columns) row (held_kinds s.columns row has.0 has.1) cond fits

-- Refusals that don't stand, and columns that names find.
use Rattle.std.proofs.Common.{◌≡◌, refl, sym, ◌∙◌, ap, subst, ℕ, zero, suc, Bool, cond, List, [], ◌∷◌, length, Option, Some, None}
use Rattle.std.specs.List.{find, position, position_or_len, slice_get}
use Rattle.std.specs.Option.{option_map, unwrap_or}
use Rattle.std.proofs.lemmas.Bool.{lt-ltb}
use Rattle.std.proofs.lemmas.List.Folds.{find_at}
use Rattle.std.proofs.lemmas.Option.{slice_get_within}
use Rattle.pk_values.specs.declared.refusal.Refusal.{Refusal}
use Rattle.pk_values.specs.Refusals.{first_some}
use Rattle.pk_syntax.specs.declared.declaration.ColumnDecl.{ColumnDecl}
use Rattle.pk_logic.specs.Kinds.{kind_at}
use Rattle.pk_schema.specs.Shapes.{is_column, place_of_column, column_named, kinds_of}
use Rattle.pk_bind.specs.Columns.{unless_found, no_column, column_at}
use Rattle.pk_values.proofs.RefusalLemmas.{head_free}

-- none of them stands
abbrev pub NoneStand : List (Option Refusal) → Type 0
NoneStand [] = Unit {0}
NoneStand (r ∷ rs) = (r ≡ None) × NoneStand rs

pub none_stand : (rs : List (Option Refusal)) → first_some rs ≡ None → NoneStand rs
none_stand [] free = tt
none_stand (r ∷ rs) free = let parts = head_free r rs free in (parts.0, none_stand rs parts.1)

-- what is found stands at the place that is found
pub found : {X : Type 0} (p : X → Bool) (xs : List X) (x : X) → find p xs ≡ Some x
    → (i : ℕ) × (position p xs ≡ Some i) × (slice_get xs i ≡ Some x)
found p xs x is =
    let i = position_or_len p xs in
    let at = sym (find_at p xs) ∙ is in
    (i, ap (λ b. cond b (Some i) None) (lt-ltb i (length xs) (slice_get_within xs i x at)), at)

there : (table name : List ℕ) (o : Option ColumnDecl) → unless_found table name o ≡ None → (c : ColumnDecl) × (o ≡ Some c)
there table name None free = absurd cc
there table name (Some c) free = (c, refl)

-- a name that isn't refused finds a column, and its place
pub column_found : (columns : List ColumnDecl) (table name : List ℕ) → no_column columns table name ≡ None
    → (c : ColumnDecl) × (column_named columns name ≡ Some c) × (slice_get columns (column_at columns name) ≡ Some c)
unfolding column_named place_of_column
column_found columns table name free =
    let it = there table name (column_named columns name) free in
    let at = found (is_column name) columns it.0 it.1 in
    (it.0, it.1, subst (λ o. slice_get columns (unwrap_or o 0) ≡ Some it.0) (sym at.1) at.2)

kind_there : (columns : List ColumnDecl) (i : ℕ) → kind_at (kinds_of columns) i ≡ option_map (λ (c : ColumnDecl). c.kind) (slice_get columns i)
kind_there [] i = refl
kind_there (c ∷ cs) zero = refl
kind_there (c ∷ cs) (suc i) = kind_there cs i

-- the kind at the place is that of the column there
pub kind_of_place : (columns : List ColumnDecl) (i : ℕ) (c : ColumnDecl) → slice_get columns i ≡ Some c → kind_at (kinds_of columns) i ≡ Some c.kind
kind_of_place columns i c at = kind_there columns i ∙ ap (option_map (λ (d : ColumnDecl). d.kind)) at

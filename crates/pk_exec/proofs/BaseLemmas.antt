-- The rows of the base, as a walk meets them.
use Rattle.std.proofs.Common.{◌≡◌, ℕ, true, false, ◌==◌, List, [], ◌∷◌, All, Some, refl, ap, sym, ◌∙◌, subst, if◌then◌else◌}
use Rattle.std.proofs.lemmas.List.Elements.{All-tail}
use Rattle.pk_values.specs.declared.placed.Placed.{Placed}
use Rattle.pk_values.specs.declared.value.Value.{Value}
use Rattle.pk_exec.specs.declared.base.BaseRow.{BaseRow}
use Rattle.pk_exec.specs.declared.table_edits.EditedRow.{EditedRow}
use Rattle.pk_exec.specs.Bases.{edits_behind, base_at, base_rows}
use Rattle.pk_exec.specs.Rows.{ids_of, rows_above, row_of}
use Rattle.pk_exec.specs.Seen.{is_part}
use Rattle.pk_exec.proofs.RowsLemmas.{IsNext}

-- the rows that are left, as the edits leave them, begin with the one that is met
pub bases_left :
    (es : List EditedRow) (rows : List Placed) (id n : ℕ) (p : Placed) (rest : List Placed) (b : BaseRow) → IsNext rows id n p rest
    → ((row : List Value) → row_of rows n ≡ Some row → b ≡ base_at es (record { id = n; row = row }))
    → base_rows es (rows_above id rows) ≡ b ∷ base_rows (edits_behind es n) (rows_above n rows)
unfolding base_rows
bases_left es rows id n p rest b next is =
    let one : b ≡ base_at es p = is p.row next.found ∙ ap (λ (i : ℕ). base_at es (record { id = i; row = p.row })) (sym next.is) in
    rw (next.above, next.behind, one, ← next.is) refl

pub bases_none : (es : List EditedRow) (rows : List Placed) (id : ℕ) → rows_above id rows ≡ [] → base_rows es (rows_above id rows) ≡ []
unfolding base_rows
bases_none es rows id none = rw none refl

-- what holds of all edits holds of those behind one
pub all_behind : (P : EditedRow → Type 0) (es : List EditedRow) (id : ℕ) → All P es → All P (edits_behind es id)
all_behind P [] id all = all
all_behind P (e ∷ es) id all = elim (e.id == id) as (λ b. All P (if b then es else e ∷ es)) [
  | true ↦ All-tail P e es all
  | false ↦ all
]

-- a part of the ids from the row that is met on is one of those that were left before it
pub front_part :
    (rows : List Placed) (at n id : ℕ) (p : Placed) (rest : List Placed) (ks : List ℕ) → IsNext rows at n p rest → id ≡ n
    → is_part ks (id ∷ ids_of (rows_above n rows)) ≡ true → is_part ks (ids_of (rows_above at rows)) ≡ true
front_part rows at n id p rest ks next is part =
    subst (λ (ps : List Placed). is_part ks (ids_of ps) ≡ true) (sym next.above)
    (subst (λ (i : ℕ). is_part ks (i ∷ ids_of rest) ≡ true) (is ∙ sym next.is)
    (subst (λ (ps : List Placed). is_part ks (id ∷ ids_of ps) ≡ true) next.behind part))

-- The rows that a transaction sees, from its entries.
use Rattle.std.proofs.Common.{◌≡◌, ◌∙◌, ℕ, Bool, true, false, List, [], ◌∷◌, ◌++◌, map, Option, Some, None, length, replicate, refl, ap, sym, if◌then◌else◌}
use Rattle.std.specs.List.{filter, flat_map, cons_option}
use Rattle.std.proofs.lemmas.List.{map-append}
use Rattle.pk_values.specs.declared.placed.Placed.{Placed}
use Rattle.pk_values.specs.declared.value.Value.{Value}
use Rattle.pk_logic.specs.declared.condition.Cond.{Cond}
use Rattle.pk_exec.specs.declared.base.BaseRow.{BaseRow}
use Rattle.pk_exec.specs.declared.table_edits.EditedRow.{EditedRow}
use Rattle.pk_exec.specs.Entries.{Entry, row_in}
use Rattle.pk_exec.specs.Bases.{base_entry, seen_entry, base_rows, rows_in}
use Rattle.pk_exec.specs.Edits.{takes, taken}
use Rattle.pk_exec.specs.Reading.{kept_rows, seen_rows}
use Rattle.pk_exec.specs.declared.selected.Selected.{Selected}
use Rattle.pk_exec.specs.Selecting.{shown, selected}
use Rattle.pk_bind.specs.declared.selection.Selection.{Selection}
use Rattle.pk_syntax.specs.declared.declaration.ColumnDecl.{ColumnDecl}
use Rattle.pk_syntax.specs.Declarations.{names_of}
use Rattle.pk_exec.specs.Works.{Edits, edits_at}
use Rattle.pk_exec.specs.Seen.{entries_of, new_entries}

one_seen : (id : ℕ) (edited : Bool) (o : Option (List Value)) (rest : List (List Value)) → map row_in (seen_entry id edited o) ++ rest ≡ cons_option o rest
one_seen id edited None rest = refl
one_seen id true (Some row) rest = refl
one_seen id false (Some row) rest = refl

bases_seen : (bs : List BaseRow) → map row_in (flat_map base_entry bs) ≡ rows_in bs
bases_seen [] = refl
bases_seen (b ∷ bs) =
    map-append row_in (base_entry b) (flat_map base_entry bs)
    ∙ ap (λ (rows : List (List Value)). map row_in (base_entry b) ++ rows) (bases_seen bs)
    ∙ one_seen b.id b.edited b.row (rows_in bs)

new_seen : (added : List (List Value)) → map row_in (new_entries added) ≡ added
new_seen [] = refl
new_seen (row ∷ rows) = ap (λ (rs : List (List Value)). row ∷ rs) (new_seen rows)

-- all rows
pub entries_rows : (w : Edits) (k : ℕ) (rows : List Placed) → map row_in (entries_of w k rows) ≡ rows_in (base_rows (edits_at w k).edited rows) ++ (edits_at w k).added
unfolding entries_of
entries_rows w k rows =
    let t = edits_at w k in
    map-append row_in (flat_map base_entry (base_rows t.edited rows)) (new_entries t.added)
    ∙ ap (λ (rs : List (List Value)). rs ++ map row_in (new_entries t.added)) (bases_seen (base_rows t.edited rows))
    ∙ ap (λ (rs : List (List Value)). rows_in (base_rows t.edited rows) ++ rs) (new_seen t.added)

taken_rows : (cond : Option Cond) (xs : List Entry) → map row_in (taken cond xs) ≡ filter (takes cond) (map row_in xs)
taken_rows cond [] = refl
taken_rows cond (x ∷ xs) = elim (takes cond (row_in x)) as (λ b.
    map row_in (if b then x ∷ taken cond xs else taken cond xs) ≡ (if b then row_in x ∷ filter (takes cond) (map row_in xs) else filter (takes cond) (map row_in xs))) [
      | true ↦ ap (λ (rs : List (List Value)). row_in x ∷ rs) (taken_rows cond xs)
      | false ↦ taken_rows cond xs
    ]

-- the rows that meet a condition
pub entries_taken : (w : Edits) (k : ℕ) (rows : List Placed) (cond : Option Cond) → map row_in (taken cond (entries_of w k rows)) ≡ seen_rows w k rows cond
entries_taken w k rows cond = taken_rows cond (entries_of w k rows) ∙ ap (filter (takes cond)) (entries_rows w k rows)

-- ---- what a walk takes

-- without a condition all rows are taken
pub all_kept : (xs : List (List Value)) → kept_rows None xs ≡ xs
all_kept [] = refl
all_kept (x ∷ xs) = ap (λ (rs : List (List Value)). x ∷ rs) (all_kept xs)

-- an empty row for each
pub numbers : (xs : List (List Value)) → replicate {A = List Value} (length xs) [] ≡ map (λ (row : List Value). []) xs
numbers [] = refl
numbers (x ∷ xs) = ap (λ (rs : List (List Value)). [] ∷ rs) (numbers xs)

-- the rows that meet a condition, from the parts that a walk takes
pub seen_from : (w : Edits) (k : ℕ) (rows : List Placed) (cond : Option Cond) (edited : List EditedRow) (added : List (List Value)) → edited ≡ (edits_at w k).edited → added ≡ (edits_at w k).added
    → filter (takes cond) (rows_in (base_rows edited rows) ++ added) ≡ seen_rows w k rows cond
seen_from w k rows cond edited added e a =
    ap (λ (es : List EditedRow). filter (takes cond) (rows_in (base_rows es rows) ++ added)) e
    ∙ ap (λ (rs : List (List Value)). filter (takes cond) (rows_in (base_rows (edits_at w k).edited rows) ++ rs)) a

pub all_from : (w : Edits) (k : ℕ) (rows : List Placed) (edited : List EditedRow) (added : List (List Value)) → edited ≡ (edits_at w k).edited → added ≡ (edits_at w k).added
    → rows_in (base_rows edited rows) ++ added ≡ map row_in (entries_of w k rows)
all_from w k rows edited added e a =
    ap (λ (es : List EditedRow). rows_in (base_rows es rows) ++ added) e
    ∙ ap (λ (rs : List (List Value)). rows_in (base_rows (edits_at w k).edited rows) ++ rs) a
    ∙ sym (entries_rows w k rows)

pub same_selected : (header header' : List (List ℕ)) (rows rows' : List (List Value)) → header ≡ header' → rows ≡ rows'
    → ◌≡◌ {A = Selected} (record { header = header; rows = rows }) (record { header = header'; rows = rows' })
same_selected header header' rows rows' h r = ap (λ (hs : List (List ℕ)). record { header = hs; rows = rows }) h ∙ ap (λ (rs : List (List Value)). record { header = header'; rows = rs }) r

-- what is told is what the selection tells of the entries
pub selected_is : (w : Edits) (k : ℕ) (rows : List Placed) (s t : Selection) (columns given : List ColumnDecl) (told : Selected)
    → told ≡ shown s.shown (names_of given) s.order (seen_rows w k rows s.cond) → s ≡ t → given ≡ columns → told ≡ selected t (names_of columns) (entries_of w k rows)
unfolding selected
selected_is w k rows s t columns given told is same all =
    is
    ∙ ap (λ (cs : List ColumnDecl). shown s.shown (names_of cs) s.order (seen_rows w k rows s.cond)) all
    ∙ ap (shown s.shown (names_of columns) s.order) (sym (entries_taken w k rows s.cond))
    ∙ ap (λ (x : Selection). shown x.shown (names_of columns) x.order (map row_in (taken x.cond (entries_of w k rows)))) same

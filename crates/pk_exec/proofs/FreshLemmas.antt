-- What a transaction sees that has edited nothing.
use Rattle.std.proofs.Common.{◌≡◌, ℕ, List, [], ◌∷◌, refl, ap, sym, ◌∙◌, subst, append-nil}
use Rattle.std.specs.List.{flat_map}
use Rattle.std.proofs.lemmas.List.Elements.{All-nil}
use Rattle.pk_values.specs.declared.placed.Placed.{Placed}
use Rattle.pk_schema.specs.Shapes.{Shape}
use Rattle.pk_schema.specs.Admits.{Admits}
use Rattle.pk_exec.specs.Bases.{base_rows, base_entry}
use Rattle.pk_exec.specs.Entries.{Entry, kept_entry, kept_entries}
use Rattle.pk_exec.specs.Works.{Edits, TableEdits, no_edits, edits_at, size_elsewhere, work_size}
use Rattle.pk_exec.specs.Seen.{entries_of, Covers, Fits, IsAdmitted}

fresh_base : (rows : List Placed) → flat_map base_entry (base_rows [] rows) ≡ kept_entries rows
unfolding base_rows
fresh_base [] = refl
fresh_base (p ∷ ps) = ap (λ (xs : List Entry). kept_entry p ∷ xs) (fresh_base ps)

-- it sees the base
pub fresh_entries : (table : ℕ) (rows : List Placed) → entries_of no_edits table rows ≡ kept_entries rows
unfolding entries_of edits_at
fresh_entries table rows = append-nil (flat_map base_entry (base_rows [] rows)) ∙ fresh_base rows

-- it edits no row that isn't there
pub fresh_covers : (table : ℕ) (rows : List Placed) → Covers no_edits table rows
unfolding edits_at
fresh_covers table rows = refl

-- every schema admits what it keeps
pub fresh_fits : (s : Shape) (table : ℕ) → Fits no_edits s table
unfolding edits_at
fresh_fits s table = (All-nil (IsAdmitted s), All-nil (Admits s))

-- nothing is changed anywhere
pub fresh_elsewhere : (table : ℕ) → size_elsewhere no_edits table ≡ 0
unfolding size_elsewhere
fresh_elsewhere table = refl

pub fresh_size : work_size no_edits ≡ 0
fresh_size = refl

-- what holds of no edits holds where there are none
pub fresh_by : (P : Edits → Type 0) (items : List TableEdits) → items ≡ [] → P no_edits → P (record { tables = items })
fresh_by P items is holds = subst (λ (ts : List TableEdits). P (record { tables = ts })) (sym is) holds

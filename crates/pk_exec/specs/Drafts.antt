-- What a change makes of a transaction's edits of a table.
use Rattle.std.specs.Prelude.{◌≡◌, ℕ, ◌+◌, Bool, true, false, ◌&&◌, List, [], ◌∷◌, ◌++◌, map, sum_by, Option, Some, None, Result, Ok, Err, if◌then◌else◌}
use Rattle.std.specs.List.{flat_map, list_all}
use Rattle.pk_values.specs.declared.value.Value.{Value}
use Rattle.pk_values.specs.declared.refusal.Refusal.{Refusal}
use Rattle.pk_values.specs.Refusals.{first_by}
use Rattle.pk_syntax.specs.declared.declaration.ColumnDecl.{ColumnDecl}
use Rattle.pk_bind.specs.declared.edit.SetTo.{SetTo}
use Rattle.pk_bind.specs.Fitting.{cond_fits, set_fits}
use Rattle.pk_exec.specs.declared.base.BaseRow.{BaseRow}
use Rattle.pk_exec.specs.declared.change.Change.{Change}
use Rattle.pk_exec.specs.declared.change.Fate.{Fate}
use Rattle.pk_exec.specs.declared.change.Fate.TheVariants.{Left, Put, Gone, Long}
use Rattle.pk_exec.specs.declared.draft.Draft.{Draft}
use Rattle.pk_exec.specs.declared.exec_err.ExecErr.{ExecErr}
use Rattle.pk_exec.specs.declared.exec_err.ExecErr.TheVariants as causes
use Rattle.pk_exec.specs.declared.table_edits.EditedRow.{EditedRow}
use Rattle.pk_exec.specs.Answers.{IsCause}
use Rattle.pk_exec.specs.Bases.{edits_in}
use Rattle.pk_exec.specs.Fates.{fate_of, fate_refusal}

abbrev pub sets_fit : List ColumnDecl → Option (List SetTo) → Bool
sets_fit columns None = true
sets_fit columns (Some sets) = list_all (set_fits columns) sets

-- the change may be made in each row that these columns admit
abbrev pub change_fits : List ColumnDecl → Change → Bool
change_fits columns c = sets_fit columns c.sets && cond_fits columns c.cond

-- ---- one row

abbrev pub is_taken_fate : Fate → Bool
is_taken_fate (Left row) = false
is_taken_fate (Put row) = true
is_taken_fate Gone = true
is_taken_fate (Long bytes) = true

-- how many rows a fate takes
abbrev pub taken_by : Fate → ℕ
taken_by fate = if is_taken_fate fate then 1 else 0

-- a row of the base by what becomes of it
abbrev pub base_by_fate : BaseRow → Fate → BaseRow
base_by_fate b (Left row) = b
base_by_fate b (Put row) = record { id = b.id; edited = true; row = Some row }
base_by_fate b Gone = record { id = b.id; edited = true; row = None }
base_by_fate b (Long bytes) = b

-- a new row by what becomes of it
abbrev pub added_by_fate : Fate → List (List Value)
added_by_fate (Left row) = row ∷ []
added_by_fate (Put row) = row ∷ []
added_by_fate Gone = []
added_by_fate (Long bytes) = []

-- of a row that may be gone already: what becomes of it, how many it takes, and what it is refused for
abbrev pub base_by : Change → BaseRow → Option (List Value) → BaseRow
base_by c b None = b
base_by c b (Some row) = base_by_fate b (fate_of c row)

abbrev pub row_taken : Change → Option (List Value) → ℕ
row_taken c None = 0
row_taken c (Some row) = taken_by (fate_of c row)

abbrev pub row_refusal : Change → Option (List Value) → Option Refusal
row_refusal c None = None
row_refusal c (Some row) = fate_refusal (fate_of c row)

-- ---- all rows

abbrev pub changed_base : Change → BaseRow → BaseRow
changed_base c b = base_by c b b.row

-- the edits of the base
abbrev pub changed_edits : Change → List BaseRow → List EditedRow
changed_edits c bases = edits_in (map (changed_base c) bases)

abbrev pub base_taken : Change → List BaseRow → ℕ
base_taken c bases = sum_by (λ (b : BaseRow). row_taken c b.row) bases

abbrev pub base_refusal : Change → List BaseRow → Option Refusal
base_refusal c bases = first_by (λ (b : BaseRow). row_refusal c b.row) bases

-- the new rows
abbrev pub changed_added : Change → List (List Value) → List (List Value)
changed_added c added = flat_map (λ row. added_by_fate (fate_of c row)) added

abbrev pub added_taken : Change → List (List Value) → ℕ
added_taken c added = sum_by (λ row. taken_by (fate_of c row)) added

abbrev pub added_refusal : Change → List (List Value) → Option Refusal
added_refusal c added = first_by (λ row. fate_refusal (fate_of c row)) added

-- ---- drafts

-- edits of the base, new rows, and how many rows were taken for them
abbrev pub IsDraft : Draft → List EditedRow → List (List Value) → ℕ → Type 0
IsDraft d edited added taken = (d.edited.items ≡ edited) × (d.added.items ≡ added) × (d.taken ≡ taken)

-- the error is a refusal for this, or want of memory
abbrev pub IsRefusalOf : Option Refusal → ExecErr → Type 0
IsRefusalOf refusal (causes.Refused r) = refusal ≡ Some r
IsRefusalOf refusal causes.Disk = ⊥
IsRefusalOf refusal causes.Changed = ⊥
IsRefusalOf refusal causes.Memory = Unit {0}

-- a draft gets these edits, new rows and rows taken, or is refused for this
abbrev pub Adds : Option Refusal → List EditedRow → List (List Value) → ℕ → Draft → Draft → Result (Unit {0}) ExecErr → Type 0
Adds refusal edited added taken old new (Ok u) =
    (refusal ≡ None) × IsDraft new (old.edited.items ++ edited) (old.added.items ++ added) (old.taken + taken)
Adds refusal edited added taken old new (Err e) = IsRefusalOf refusal e

-- of the rows of the base so many are done, and these are left
abbrev pub IsBaseDrafted : Change → List BaseRow → List BaseRow → Draft → Type 0
IsBaseDrafted c all left d =
    (base_refusal c all ≡ base_refusal c left)
    × (changed_edits c all ≡ d.edited.items ++ changed_edits c left)
    × (d.added.items ≡ [])
    × (base_taken c all ≡ d.taken + base_taken c left)

-- the draft of all rows of the base, or the first refusal of one
abbrev pub BaseDrafts : Change → List BaseRow → Result Draft ExecErr → Type 0
BaseDrafts c bases (Ok d) = IsBaseDrafted c bases [] d
BaseDrafts c bases (Err e) = IsCause (base_refusal c bases ∷ []) e

-- the draft of a table, or the first refusal of a row
abbrev pub IsDrafted : Change → List BaseRow → List (List Value) → Result Draft ExecErr → Type 0
IsDrafted c bases added (Ok d) =
    (base_refusal c bases ≡ None)
    × (added_refusal c added ≡ None)
    × IsDraft d (changed_edits c bases) (changed_added c added) (base_taken c bases + added_taken c added)
IsDrafted c bases added (Err e) = IsCause (base_refusal c bases ∷ added_refusal c added ∷ []) e

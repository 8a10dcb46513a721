-- How a change of a table's edits ends.
use Rattle.std.specs.Prelude.{◌≡◌, ℕ, ◌+◌, List, [], ◌∷◌, Option, Some, None, Result, Ok, Err}
use Rattle.pk_values.specs.declared.placed.Placed.{Placed}
use Rattle.pk_values.specs.declared.refusal.Refusal.{Refusal}
use Rattle.pk_values.specs.Refusals.{first_some}
use Rattle.pk_exec.specs.declared.change.Change.{Change}
use Rattle.pk_exec.specs.declared.draft.Draft.{Draft}
use Rattle.pk_exec.specs.declared.exec_err.ExecErr.{ExecErr}
use Rattle.pk_exec.specs.declared.exec_err.ExecErr.TheVariants as causes
use Rattle.pk_exec.specs.Answers.{IsCause}
use Rattle.pk_exec.specs.Bases.{base_rows}
use Rattle.pk_exec.specs.Drafts.{changed_edits, changed_added, base_taken, added_taken, base_refusal, added_refusal}
use Rattle.pk_exec.specs.Refusals.{many_changes}
use Rattle.pk_exec.specs.Works.{Edits, TableEdits, edits_at, edit_count, size_elsewhere, with_table}

abbrev pub table_of : ℕ → Draft → TableEdits
table_of table d = record { table = table; edited = d.edited.items; added = d.added.items }

-- so many rows would be changed with these edits of their table
abbrev pub settling_refusal : Edits → TableEdits → Option Refusal
settling_refusal w t = many_changes (size_elsewhere w t.table + edit_count t)

-- where a draft isn't too much it stands in place of the table's edits; a refusal leaves them
abbrev pub IsSettled : ℕ → Draft → Edits → Edits → Result ℕ ExecErr → Type 0
IsSettled table d old new (Ok n) = (settling_refusal old (table_of table d) ≡ None) × (n ≡ d.taken) × (new ≡ with_table (table_of table d) old)
IsSettled table d old new (Err (causes.Refused r)) = (settling_refusal old (table_of table d) ≡ Some r) × (new ≡ old)
IsSettled table d old new (Err causes.Disk) = ⊥
IsSettled table d old new (Err causes.Changed) = ⊥
IsSettled table d old new (Err causes.Memory) = Unit {0}

-- the edits of a table after a change
abbrev pub changed_table : Change → ℕ → List Placed → Edits → TableEdits
changed_table c table rows w =
    record {
      table = table;
      edited = changed_edits c (base_rows (edits_at w table).edited rows);
      added = changed_added c (edits_at w table).added;
    }

-- what a change is refused for: a row that would be too long, and too many changed rows
abbrev pub change_refusals : Change → ℕ → List Placed → Edits → List (Option Refusal)
change_refusals c table rows w =
    base_refusal c (base_rows (edits_at w table).edited rows)
    ∷ added_refusal c (edits_at w table).added
    ∷ settling_refusal w (changed_table c table rows w)
    ∷ []

-- how many rows a change takes
abbrev pub change_taken : Change → ℕ → List Placed → Edits → ℕ
change_taken c table rows w = base_taken c (base_rows (edits_at w table).edited rows) + added_taken c (edits_at w table).added

-- a change that is made, or the first refusal of it
abbrev pub IsChanged : Change → ℕ → List Placed → Edits → Edits → Result ℕ ExecErr → Type 0
IsChanged c table rows old new (Ok n) =
    (first_some (change_refusals c table rows old) ≡ None)
    × (n ≡ change_taken c table rows old)
    × (new ≡ with_table (changed_table c table rows old) old)
IsChanged c table rows old new (Err e) = IsCause (change_refusals c table rows old) e

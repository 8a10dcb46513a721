-- What INSERT, UPDATE and DELETE make of the rows that a transaction sees.
use Rattle.std.specs.Prelude.{Bool, true, not, List, map, ◌++◌, Option, Some, None, if◌then◌else◌}
use Rattle.std.specs.List.{filter}
use Rattle.pk_values.specs.declared.value.Value.{Value}
use Rattle.pk_logic.specs.declared.condition.Cond.{Cond}
use Rattle.pk_logic.specs.Conditions.{truth}
use Rattle.pk_logic.specs.Laws.{is_true}
use Rattle.pk_bind.specs.declared.edit.Edit.{Edit}
use Rattle.pk_bind.specs.Fitting.{with_sets}
use Rattle.pk_exec.specs.Entries.{Entry, New, row_in, with_row}

-- the row meets the condition, where there is one; what is unknown isn't met
abbrev pub takes : Option Cond → List Value → Bool
takes None row = true
takes (Some cond) row = is_true (truth row cond)

-- the entries whose rows meet the condition
abbrev pub taken : Option Cond → List Entry → List Entry
taken cond entries = filter (λ x. takes cond (row_in x)) entries

-- the new rows stand behind all others
abbrev pub inserted_into : List (List Value) → List Entry → List Entry
inserted_into rows entries = entries ++ map (λ row. New row) rows

abbrev pub updated_entry : Edit → Entry → Entry
updated_entry e x = if takes e.cond (row_in x) then with_row (with_sets e.sets (row_in x)) x else x

abbrev pub updated : Edit → List Entry → List Entry
updated e entries = map (updated_entry e) entries

abbrev pub deleted : Option Cond → List Entry → List Entry
deleted cond entries = filter (λ x. not (takes cond (row_in x))) entries

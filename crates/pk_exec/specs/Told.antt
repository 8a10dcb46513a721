-- What edits make of the base's rows.
use Rattle.std.specs.Prelude.{ℕ, List, Option, Some, None}
use Rattle.std.specs.List.{filter_map}
use Rattle.pk_values.specs.declared.placed.Placed.{Placed}
use Rattle.pk_values.specs.declared.value.Value.{Value}
use Rattle.pk_exec.specs.declared.table_edits.EditedRow.{EditedRow}

abbrev pub gone_by : ℕ → Option (List Value) → Option ℕ
gone_by id None = Some id
gone_by id (Some row) = None

-- the ids of the rows that are gone
abbrev pub gone_edits : List EditedRow → List ℕ
gone_edits edits = filter_map (λ (e : EditedRow). gone_by e.id e.row) edits

abbrev pub put_by : ℕ → Option (List Value) → Option Placed
put_by id None = None
put_by id (Some row) = Some (record { id = id; row = row })

-- the rows that edits put
abbrev pub put_edits : List EditedRow → List Placed
put_edits edits = filter_map (λ (e : EditedRow). put_by e.id e.row) edits

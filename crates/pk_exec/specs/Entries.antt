-- The rows of a table as a transaction sees them.
use Rattle.std.specs.Prelude.{ℕ, List, map}
use Rattle.pk_values.specs.declared.placed.Placed.{Placed}
use Rattle.pk_values.specs.declared.value.Value.{Value}

-- a row of the base, a row of the base that the transaction has changed, or a new row
pub data Entry : Type 0 where
  Kept : ℕ → List Value → Entry
  Touched : ℕ → List Value → Entry
  New : List Value → Entry

-- the row as the transaction sees it
abbrev pub row_in : Entry → List Value
row_in (Kept id row) = row
row_in (Touched id row) = row
row_in (New row) = row

-- the entry with another row
abbrev pub with_row : List Value → Entry → Entry
with_row row (Kept id old) = Touched id row
with_row row (Touched id old) = Touched id row
with_row row (New old) = New row

abbrev pub kept_entry : Placed → Entry
kept_entry p = Kept p.id p.row

-- what a transaction sees that has changed nothing
abbrev pub kept_entries : List Placed → List Entry
kept_entries rows = map kept_entry rows

-- Entries that come of the rows of a table, and the rows that come of them.
use Rattle.std.specs.Prelude.{◌≡◌, ℕ, ◌+◌, List, [], ◌∷◌, All}
use Rattle.pk_values.specs.declared.placed.Placed.{Placed}
use Rattle.pk_values.specs.declared.changes.Changes.{Changes}
use Rattle.pk_values.specs.declared.value.Value.{Value}
use Rattle.pk_values.specs.Values.{IsStorable}
use Rattle.pk_schema.specs.Admits.{Admits}
use Rattle.pk_schema.specs.Shapes.{Shape}
use Rattle.pk_exec.specs.Entries.{Entry, Kept, Touched, New, row_in}
use Rattle.pk_engine.specs.Base.{Table}
use Rattle.pk_engine.specs.Edits.{changes_in}

-- the entries are all new
abbrev pub AreNew : List Entry → Type 0
AreNew [] = Unit {0}
AreNew (Kept id row ∷ es) = ⊥
AreNew (Touched id row ∷ es) = ⊥
AreNew (New row ∷ es) = AreNew es

-- the entries are some of the rows in their order, as they are or touched, and new ones behind them
pub data Follow : List Placed → List Entry → Type 0 where
  Ends : (es : List Entry) → AreNew es → Follow [] es
  Goes : (p : Placed) (ps : List Placed) (es : List Entry) → Follow ps es → Follow (p ∷ ps) es
  Stays : (p : Placed) (ps : List Placed) (es : List Entry) → Follow ps es → Follow (p ∷ ps) (Kept p.id p.row ∷ es)
  Turns : (p : Placed) (ps : List Placed) (row : List Value) (es : List Entry) → Follow ps es → Follow (p ∷ ps) (Touched p.id row ∷ es)

-- the rows of the entries; new ones get ids from this one on
abbrev pub placed : ℕ → List Entry → List Placed
placed next [] = []
placed next (Kept id row ∷ es) = record { id = id; row = row } ∷ placed next es
placed next (Touched id row ∷ es) = record { id = id; row = row } ∷ placed next es
placed next (New row ∷ es) = record { id = next; row = row } ∷ placed (next + 1) es

-- the schema admits the row, and each value is one of the code's
abbrev pub MayBeKept : Shape → List Value → Type 0
MayBeKept s row = Admits s row × All IsStorable row

-- these are the changes that some entries make of the table, each with a row that the table may have
abbrev pub AreOf : Table → Changes → Type 0
AreOf t c = (entries : List Entry) × Follow t.rows entries × All (λ e. MayBeKept t.shape (row_in e)) entries × (c ≡ changes_in t entries)

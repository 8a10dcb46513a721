-- A small base at its edges: the map that stands for it, and maps beside it that stand for none.
use Rattle.std.specs.Prelude.{ℕ, ◌+◌, ◌^◌, List, [], ◌∷◌, codes, pos}
use Rattle.pk_values.specs.declared.value.Value.TheVariants.{Integer}
use Rattle.pk_catalog.specs.Bases.{Table, Base, Numbered, StandsFor, records}
use Rattle.pk_catalog.specs.BaseMaps.{StandsForNone}
use Rattle.pk_catalog.specs.Edges.{small_table}

-- the table t of a column a of numbers, with the row (1) at this id and with this next id
abbrev pub table : ℕ → ℕ → Table
table id next = record { name = codes "t"; shape = small_table.schema; next = next; rows = record { id = id; row = Integer (pos 1) ∷ [] } ∷ [] }

-- it under this number
abbrev pub one : ℕ → ℕ → ℕ → List Numbered
one number id next = record { number = number; table = table id next } ∷ []

-- it under two numbers
abbrev pub two : List Numbered
two = record { number = 1; table = table 1 2 } ∷ record { number = 2; table = table 1 2 } ∷ []

abbrev pub base : Base
base = record { commit = 2 ^ 62; tables = table 1 2 ∷ [] }

pub record BasesAtTheirEdges : Type 0 where
  pub first : StandsFor (records (2 ^ 62) (one 1 1 2)) base
  pub last : StandsFor (records (2 ^ 62) (one 256 1 2)) base
  pub number_over : StandsForNone (records (2 ^ 62) (one 257 1 2))
  pub id_at_next : StandsForNone (records (2 ^ 62) (one 1 2 2))
  pub commit_over : StandsForNone (records (2 ^ 62 + 1) (one 1 1 2))
  pub name_twice : StandsForNone (records (2 ^ 62) two)

-- What a commit does to a map: places go, and then records are put.
use Rattle.std.specs.Prelude.{◌≡◌, ℕ, ◌≤◌, Bool, false, ◌&&◌, ◌==◌, if◌then◌else◌, List, ◌∷◌, map, find, Option, Some, None}
use Rattle.std.specs.List.{list_any}
use Rattle.std.specs.Option.{option_map}
use Rattle.pk_values.specs.declared.changes.Changes.{Changes}
use Rattle.pk_values.specs.declared.placed.Placed.{Placed}
use Rattle.pk_values.specs.declared.value.Value.{Value}
use Rattle.pk_values.specs.Records.{row_record}
use Rattle.pk_catalog.specs.Records.{base_record, table_record}
use Rattle.pk_catalog.specs.Bases.{Table, Numbered, Map, known_of, row_of, is_base_place, table_records}

-- a record and where it goes
pub record Put : Type 0 where
  pub number : ℕ
  pub id : ℕ
  pub bytes : List ℕ

abbrev pub is_at : ℕ → ℕ → Put → Bool
is_at number id p = p.number == number && p.id == id

-- what is put at a place
abbrev pub put_at : List Put → ℕ → ℕ → Option (List ℕ)
put_at puts number id = option_map (λ (p : Put). p.bytes) (find (is_at number id) puts)

-- whether a place goes
abbrev pub is_gone : List (ℕ × ℕ) → ℕ → ℕ → Bool
is_gone gone number id = list_any (λ place. place.0 == number && place.1 == id) gone

abbrev pub or_else : Option (List ℕ) → Option (List ℕ) → Option (List ℕ)
or_else (Some bytes) other = Some bytes
or_else None other = other

-- the map without the places that go, and then with what is put
abbrev pub batched : List (ℕ × ℕ) → List Put → Map → Map
batched gone puts m number id = or_else (put_at puts number id) (if is_gone gone number id then None else m number id)

-- ---- the batches of commits

-- the record of a base with so many commits
abbrev pub base_put : ℕ → Put
base_put commit = record { number = 0; id = 0; bytes = base_record commit }

-- the record of a table
abbrev pub table_put : ℕ → Table → Put
table_put number t = record { number = number; id = 0; bytes = table_record (known_of t) }

-- the record of a row
abbrev pub row_put : ℕ → Placed → Put
row_put number p = record { number = number; id = p.id; bytes = row_record p.row }

-- all places of a table: its own, and those of its rows
abbrev pub places : ℕ → Table → List (ℕ × ℕ)
places number t = (number, 0) ∷ map (λ (p : Placed). (number, p.id)) t.rows

-- the places of rows that go
abbrev pub rows_gone : ℕ → Changes → List (ℕ × ℕ)
rows_gone number c = map (λ id. (number, id)) c.gone

-- the records of rows that are put, behind that of their table
abbrev pub rows_put : ℕ → Table → Changes → List Put
rows_put number t c = table_put number t ∷ map (row_put number) c.put

-- whether an id is one of them
abbrev pub has_id : List ℕ → ℕ → Bool
has_id ids id = list_any (λ i. i == id) ids

abbrev pub or_row : Option (List Value) → Option (List Value) → Option (List Value)
or_row (Some row) other = Some row
or_row None other = other

-- a table is another once its rows have changed so: at each id it has the row that is put, or none where the row goes, or what it had
pub record IsChanged (c : Changes) (old new : Table) : Type 0 where
  pub name : new.name ≡ old.name
  pub shape : new.shape ≡ old.shape
  pub rows : (id : ℕ) → 1 ≤ id → row_of new.rows id ≡ or_row (row_of c.put id) (if has_id c.gone id then None else row_of old.rows id)

-- the map has just the records of these tables; at the place of the base's own it may have anything
abbrev pub KeepsTables : Map → List Numbered → Type 0
KeepsTables m ts = (number id : ℕ) → is_base_place number id ≡ false → m number id ≡ table_records ts number id

-- What stands at each place after a commit.
use Rattle.std.specs.Prelude.{◌≡◌, ℕ, Bool, if◌then◌else◌, List, [], ◌∷◌, Option, Some, None}
use Rattle.std.specs.List.{list_any}
use Rattle.std.specs.Ordering.{eq_by_cmp}
use Rattle.pk_rows.specs.declared.place.Place.{Place}
use Rattle.pk_rows.specs.declared.stored.Stored.{Stored}
use Rattle.pk_rows.specs.declared.batch.Batch.{Batch}
use Rattle.pk_rows.specs.Maps.{Map, place_cmp, bytes_at, committed}

-- what is put last at a place, and otherwise what stands there
abbrev pub put_or : List Stored → Place → Option (List ℕ) → Option (List ℕ)
put_or [] place old = old
put_or (stored ∷ rest) place old = put_or rest place (if eq_by_cmp place_cmp place stored.place then Some stored.bytes else old)

-- whether a place is among these
abbrev pub is_among : Place → List Place → Bool
is_among place places = list_any (eq_by_cmp place_cmp place) places

-- what was put at a place, else nothing where it is gone, else what stood there
abbrev pub CommitsAreToldByPlace : Type 0
CommitsAreToldByPlace = (batch : Batch) (m : Map) (place : Place)
    → bytes_at (committed batch m) place ≡ put_or batch.put place (if is_among place batch.gone then None else bytes_at m place)

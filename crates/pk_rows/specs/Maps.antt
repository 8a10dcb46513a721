-- Finite maps from places to bytes, and what a commit makes of one.
use Rattle.std.specs.Prelude.{◌≡◌, ℕ, Bool, List, [], ◌∷◌, Option, Some, None, is_some, IsTrue}
use Rattle.std.specs.FinMap.{FinMap, get, insert, remove, len}
use Rattle.std.specs.Ordering.{nat_cmp, ordering_then}
use Rattle.std.specs.BTreeMap.Range.{IsLeBy, IsLtBy}
use Rattle.std.specs.declared.cmp.Ordering.{Ordering}
use Rattle.pk_rows.specs.declared.place.Place.{Place}
use Rattle.pk_rows.specs.declared.stored.Stored.{Stored}
use Rattle.pk_rows.specs.declared.batch.Batch.{Batch}

-- by table, and then by id
abbrev pub place_cmp : Place → Place → Ordering
place_cmp a b = ordering_then (nat_cmp a.table b.table) (nat_cmp a.id b.id)

-- what is stored: bytes at some places
abbrev pub Map : Type 0
Map = FinMap place_cmp (List ℕ)

-- the bytes at a place, None where there is nothing
abbrev pub bytes_at : Map → Place → Option (List ℕ)
bytes_at m place = get m place

-- whether there is something at a place
abbrev pub has_place : Map → Place → Bool
has_place m place = is_some (bytes_at m place)

-- something at the same places
abbrev pub HaveSamePlaces : Map → Map → Type 0
HaveSamePlaces m n = (place : Place) → has_place m place ≡ has_place n place

-- at how many places there is something
abbrev pub place_count : Map → ℕ
place_count m = len m

-- the least place above at which there is something, None where there is none
abbrev pub IsNextAbove : Map → Place → Option Place → Type 0
IsNextAbove m place None = (q : Place) → IsLtBy place_cmp place q → bytes_at m q ≡ None
IsNextAbove m place (Some next) =
    IsLtBy place_cmp place next × IsTrue (has_place m next)
    × ((q : Place) → IsLtBy place_cmp place q → IsTrue (has_place m q) → IsLeBy place_cmp next q)

-- the map without these places
abbrev pub without : List Place → Map → Map
without [] m = m
without (place ∷ places) m = without places (remove m place)

-- the map with these bytes at their places, of several at one place the last
abbrev pub with_all : List Stored → Map → Map
with_all [] m = m
with_all (stored ∷ rest) m = with_all rest (insert m stored.place stored.bytes)

-- the map after a commit: first what is gone is taken out, and then what is put is put
abbrev pub committed : Batch → Map → Map
committed batch m = with_all batch.put (without batch.gone m)

-- the map after these commits, one after the other
abbrev pub after : List Batch → Map → Map
after [] m = m
after (batch ∷ batches) m = after batches (committed batch m)

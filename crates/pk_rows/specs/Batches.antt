-- Which batches may be committed.
use Rattle.std.specs.Prelude.{ℕ, ◌+◌, ◌≤◌, List, [], ◌∷◌, map, length, IsTrue}
use Rattle.std.specs.List.{All}
use Rattle.std.specs.List.Sorted.{IsStrictlySortedBy}
use Rattle.pk_rows.specs.declared.place.Place.{Place}
use Rattle.pk_rows.specs.declared.stored.Stored.{Stored}
use Rattle.pk_rows.specs.declared.batch.Batch.{Batch}
use Rattle.pk_rows.specs.Maps.{Map, place_cmp, has_place, place_count, committed}

-- a batch may be committed to a map
pub record CanCommit (batch : Batch) (m : Map) : Type 0 where
  pub gone_ascend : IsStrictlySortedBy place_cmp batch.gone
  pub put_ascend : IsStrictlySortedBy place_cmp (map (λ s. s.place) batch.put)
  pub sized : All (λ s. length s.bytes ≤ 4080) batch.put
  pub present : All (λ place. IsTrue (has_place m place)) batch.gone
  pub few : length batch.gone + length batch.put ≤ 20300
  pub fits : place_count (committed batch m) ≤ 300000

-- each of the batches may be committed to what the ones before it left
abbrev pub CanRun : List Batch → Map → Type 0
CanRun [] m = Unit {0}
CanRun (batch ∷ batches) m = CanCommit batch m × CanRun batches (committed batch m)

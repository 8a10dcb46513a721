-- Three batches one after the other, from nothing.
use Rattle.std.specs.Prelude.{◌≡◌, ℕ, List, [], ◌∷◌, Some, None}
use Rattle.std.specs.FinMap.{empty}
use Rattle.pk_rows.specs.declared.place.Place.{Place}
use Rattle.pk_rows.specs.declared.stored.Stored.{Stored}
use Rattle.pk_rows.specs.declared.batch.Batch.{Batch}
use Rattle.pk_rows.specs.Maps.{Map, bytes_at, IsNextAbove, after}
use Rattle.pk_rows.specs.Batches.{CanRun}

abbrev pub place : ℕ → ℕ → Place
place table id = record { table = table; id = id }

abbrev pub stored : ℕ → ℕ → List ℕ → Stored
stored table id bytes = record { place = place table id; bytes = bytes }

abbrev pub batch : List Place → List Stored → Batch
batch gone put = record { gone = gone; put = put }

-- places that no base has are places like others
abbrev pub first : Batch
first = batch [] (stored 0 1 (7 ∷ []) ∷ stored 1 1 (97 ∷ 98 ∷ []) ∷ stored 257 0 [] ∷ [])

-- (1, 1) is gone and put
abbrev pub second : Batch
second = batch (place 0 1 ∷ place 1 1 ∷ []) (stored 1 1 (99 ∷ []) ∷ stored 1 2 [] ∷ [])

abbrev pub third : Batch
third = batch (place 257 0 ∷ []) []

abbrev pub batches : List Batch
batches = first ∷ second ∷ third ∷ []

pub record ExampleIsRun : Type 0 where
  pub may_run : CanRun batches empty
  pub once_gone : bytes_at (after batches empty) (place 0 1) ≡ None
  pub gone_and_put : bytes_at (after batches empty) (place 1 1) ≡ Some (99 ∷ [])
  pub put : bytes_at (after batches empty) (place 1 2) ≡ Some []
  pub gone_alone : bytes_at (after batches empty) (place 257 0) ≡ None
  pub never_put : bytes_at (after batches empty) (place 1 0) ≡ None

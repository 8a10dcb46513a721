use Rattle.std.specs.Prelude.{◌≡◌, ℕ, ◌<◌, List, [], ◌∷◌, length, slice_index_or, IsTrue}
use Rattle.pk_world.specs.declared.station.Station.{Ghosts}
use Rattle.pk_gate.specs.declared.log.Log.{Log}
use Rattle.pk_gate.specs.Format.{LogHolds}
use Rattle.pk_gate.specs.Stands.{Stands, count_of, len_at}

-- a file holds at most one list
abbrev pub OneList : Type 0
OneList = (log : List ℕ) (ps qs : List (List ℕ)) → LogHolds log ps → LogHolds log qs → ps ≡ qs

-- what a log says of its list
pub record Counts {W : Type 0} (g : Ghosts W) : Type 0 where
  pub count : (log : Log) (station : W) (ps : List (List ℕ)) → Stands g log station ps → IsTrue (g.tells station) → count_of log ≡ length ps
  pub len : (log : Log) (station : W) (ps : List (List ℕ)) (k : ℕ) → Stands g log station ps → IsTrue (g.tells station) → k < length ps → len_at log k ≡ length (slice_index_or ps k [])

-- the two payloads `ab` and `c`, a closed gate, and what an append may have left behind it
abbrev pub ExampleIsHeld : Type 0
ExampleIsHeld =
    LogHolds
    (75 ∷ 69 ∷ 89 ∷ 84 ∷ 76 ∷ 79 ∷ 71 ∷ 49
    ∷ 1 ∷ 0 ∷ 0 ∷ 0 ∷ 2 ∷ 97 ∷ 98
    ∷ 1 ∷ 0 ∷ 0 ∷ 0 ∷ 1 ∷ 99
    ∷ 7 ∷ 0 ∷ 0 ∷ 0 ∷ 9 ∷ 1 ∷ [])
    ((97 ∷ 98 ∷ []) ∷ (99 ∷ []) ∷ [])

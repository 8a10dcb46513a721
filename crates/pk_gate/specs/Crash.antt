-- What a crash may leave in each call on a log. The pages are those of something that a crash could have left before.
use Rattle.std.specs.Prelude.{◌≡◌, ◌⊎◌, List, [], ◌∷◌, ◌++◌, ℕ}
use Rattle.pk_world.specs.declared.station.Station.{Ghosts}
use Rattle.pk_world.specs.Files.{Files}
use Rattle.pk_gate.specs.Format.{LogHolds}

-- the log is so, and the pages are as a crash could have left them before
abbrev pub LeavesLog : {W : Type 0} → Ghosts W → W → (List ℕ → Type 0) → Files → Type 0
LeavesLog g old P f = (d : Files) × g.may_leave old d × (f.pages ≡ d.pages) × P f.log

-- a file holds the list, or that list and one payload more
abbrev pub BeforeOrAfter : List (List ℕ) → List ℕ → List ℕ → Type 0
BeforeOrAfter payloads payload log = LogHolds log payloads ⊎ LogHolds log (payloads ++ (payload ∷ []))

-- a file holds the list, or none
abbrev pub BeforeOrNone : List (List ℕ) → List ℕ → Type 0
BeforeOrNone payloads log = LogHolds log payloads ⊎ LogHolds log []

-- an append leaves the list, or that list and the payload
abbrev pub Appending : {W : Type 0} → Ghosts W → W → List (List ℕ) → List ℕ → Files → Type 0
Appending g old payloads payload f = LeavesLog g old (BeforeOrAfter payloads payload) f

-- a restart leaves the list, or none
abbrev pub Restarting : {W : Type 0} → Ghosts W → W → List (List ℕ) → Files → Type 0
Restarting g old payloads f = LeavesLog g old (BeforeOrNone payloads) f

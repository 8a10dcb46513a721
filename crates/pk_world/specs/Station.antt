-- What is said of a run of station calls. `Ghosts W` has the meanings of a station of type W, so that no clause lists them.
use Rattle.std.specs.Prelude.{◌≡◌, ◌↔◌, ℕ, ◌+◌, ◌^◌, ◌≤◌, List, length, IsTrue}
use Rattle.pk_world.specs.declared.station.Which.{Which}
use Rattle.pk_world.specs.declared.station.Station.{Ghosts}
use Rattle.pk_world.specs.Clock.{Passes}
use Rattle.pk_world.specs.Files.{Files, file_of, with_file, overwritten, TornIn}

-- calls of any kind were made, whatever they answered
pub record Runs {W : Type 0} (g : Ghosts W) (old new : W) : Type 0 where
  pub tells : g.tells new ≡ g.tells old
  pub honest : g.honest old ↔ g.honest new
  pub time : Passes (g.now old) (g.now new) (g.left_since old) (g.left_since new)
  pub disk : g.disk_faults old ≤ g.disk_faults new
  pub sink : g.sink_faults old ≤ g.sink_faults new

-- calls on the files alone were made, whatever they answered
pub record Uses {W : Type 0} (g : Ghosts W) (old new : W) : Type 0 where
  pub tells : g.tells new ≡ g.tells old
  pub honest : g.honest old ↔ g.honest new
  pub time : Passes (g.now old) (g.now new) (g.left_since old) (g.left_since new)
  pub told : g.told new ≡ g.told old
  pub disk : g.disk_faults old ≤ g.disk_faults new
  pub sink : g.sink_faults new ≡ g.sink_faults old

-- each pair of files that a crash might have left since then, while the sink had taken those bytes, is so
abbrev pub EachMoment : {W : Type 0} → Ghosts W → W → W → (Files → List ℕ → Type 0) → Type 0
EachMoment g old new P = g.honest old → IsTrue (g.tells old) → (f : Files) (s : List ℕ) → g.left_since new (g.now old) f s → P f s

-- each pair of files that a crash might have left since then is so, and the sink had taken what it has now
abbrev pub LeavesOnly : {W : Type 0} → Ghosts W → W → W → (Files → Type 0) → Type 0
LeavesOnly g old new P = EachMoment g old new (λ f s. P f × (s ≡ g.told old))

-- the files were only looked at or synced
pub record Reads {W : Type 0} (g : Ghosts W) (old new : W) : Type 0 where
  pub uses : Uses g old new
  pub content : g.content new ≡ g.content old
  pub leaves : LeavesOnly g old new (g.may_leave old)

-- what a crash could have left, with one range of one file torn
abbrev pub Tearing : {W : Type 0} → Ghosts W → W → Which → ℕ → ℕ → Files → Type 0
Tearing g old which at count f = (d : Files) × g.may_leave old d × TornIn which at count d f

-- these bytes were written there, and that file synced
pub record IsWritten {W : Type 0} (g : Ghosts W) (which : Which) (at : ℕ) (bytes : List ℕ) (old new : W) : Type 0 where
  pub content : IsTrue (g.tells old) → g.content new ≡ with_file (g.content old) which (overwritten (file_of (g.content old) which) at bytes)
  pub durable : g.honest old → IsTrue (g.tells old) → (f : Files) → g.may_leave new f → file_of f which ≡ overwritten (file_of (g.content old) which) at bytes
  pub fits : at + length bytes ≤ 2 ^ 62

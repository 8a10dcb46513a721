use Rattle.std.specs.Prelude.{◌⊎◌, ℕ, ◌<◌, ◌≤◌, List, map, length}
use Rattle.pk_world.specs.declared.memory_station.MemoryStation.{MemoryStation}
use Rattle.pk_world.specs.Files.{Files}
use Rattle.pk_world.specs.Disk.{Range, MayBeLeft}
use Rattle.pk_world.specs.History.{Written, FileState, Moment, inside}
use Rattle.pk_world.specs.MemoryFiles.{held}
use Rattle.pk_world.specs.MemoryStation.{call_count, moment_of, MayLeaveNow, MayHaveLeft}

-- the ranges that were written since a file's last sync
abbrev pub ranges : List Written → List Range
ranges writes = map (λ w. record { at = w.at; count = length w.bytes }) writes

-- the disk model allows this of the file
abbrev pub IsAllowed : FileState → List ℕ → Type 0
IsAllowed st left = MayBeLeft st.synced (ranges st.writes) left

-- and that of both
pub record AreAllowed (m : Moment) (f : Files) : Type 0 where
  pub log : IsAllowed m.log f.log
  pub pages : IsAllowed m.pages f.pages

-- What a station in memory says that a crash may leave now, the model allows now. What it says that a crash might have
-- left since a moment, the model allows inside some call since then, or now.
pub record MemoryIsHonest : Type 0 where
  pub now : (x : MemoryStation) (f : Files) → MayLeaveNow x f → AreAllowed (moment_of x) f
  pub since : (x : MemoryStation) (t : ℕ) (f : Files) (s : List ℕ) → t ≤ call_count x → MayHaveLeft x t f s → ((k : ℕ) × (t ≤ k) × (k < call_count x) × AreAllowed (inside (held x.first) x.calls.items k) f) ⊎ AreAllowed (moment_of x) f

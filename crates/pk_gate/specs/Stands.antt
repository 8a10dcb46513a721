use Rattle.std.specs.Prelude.{◌≡◌, ℕ, ◌+◌, ◌^◌, ◌≤◌, List, [], ◌∷◌, length, slice_index_or, IsTrue}
use Rattle.std.specs.List.{All}
use Rattle.pk_world.specs.declared.station.Station.{Ghosts}
use Rattle.pk_world.specs.Files.{Files}
use Rattle.pk_gate.specs.declared.extent.Extent.{Extent}
use Rattle.pk_gate.specs.declared.log.Log.{Log}
use Rattle.pk_gate.specs.Format.{LogHolds, gate_behind}

-- how many payloads a log knows of
abbrev pub count_of : Log → ℕ
count_of log = length log.extents.items

-- how many bytes one of them has
abbrev pub len_at : Log → ℕ → ℕ
len_at log k = (slice_index_or log.extents.items k (record { at = 0; len = 0 })).len

-- where the payloads of a list lie, if the gate of the first is at `gate`
abbrev pub extents_from : ℕ → List (List ℕ) → List Extent
extents_from gate [] = []
extents_from gate (p ∷ ps) = record { at = gate + 5; len = length p } ∷ extents_from (gate + 5 + length p) ps

-- an extent ends where a file may end
abbrev pub IsInside : Extent → Type 0
IsInside extent = extent.at + extent.len ≤ 2 ^ 62

-- A log and its station stand for a list: the file as it reads holds it, and so does each file that a crash may leave now.
-- Of a station that tells nothing the first says nothing, and of one that isn't honest the second.
pub record Stands {W : Type 0} (g : Ghosts W) (log : Log) (station : W) (payloads : List (List ℕ)) : Type 0 where
  pub as_read : IsTrue (g.tells station) → LogHolds (g.content station).log payloads
  pub left : g.honest station → IsTrue (g.tells station) → (f : Files) → g.may_leave station f → LogHolds f.log payloads
  pub gate : IsTrue (g.tells station) → log.gate ≡ gate_behind 8 payloads
  pub extents : IsTrue (g.tells station) → log.extents.items ≡ extents_from 8 payloads
  pub fits : log.gate ≤ 2 ^ 62
  pub inside : All IsInside log.extents.items

-- a log knows the same of its file as before
pub record IsSame (old new : Log) : Type 0 where
  pub gate : new.gate ≡ old.gate
  pub extents : new.extents.items ≡ old.extents.items

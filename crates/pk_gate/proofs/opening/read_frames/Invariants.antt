use Rattle.std.proofs.Common.{◌≡◌, ◌≤◌, ◌-◌, IsTrue}
use Rattle.std.specs.List.{All}
use Rattle.pk_world.specs.Station.{Reads}
use Rattle.pk_gate.specs.Stands.{IsInside}
use Rattle.pk_gate.specs.Steps.{Shows}
use Rattle.pk_gate.proofs.Heads.{Found}
use Rattle.pk_gate.proofs.opening.read_frames.Given as goal

-- the frames up to the gate were found, and lie where the extents say
abbrev pub invariant-frames : goal.invariant-frames
invariant-frames g l = record {
  reads : Reads g.W.Station l.fn.station l.station;
  within : l.gate ≤ l.size;
  shows : IsTrue (g.W.Station.tells l.fn.station) → Shows (g.W.Station.content l.fn.station).log l.part;
  found : IsTrue (g.W.Station.tells l.fn.station) → Found (g.W.Station.content l.fn.station).log l.gate l.extents.items;
  inside : All IsInside l.extents.items;
  unfailed : g.W.Station.disk_faults l.station ≡ g.W.Station.disk_faults l.fn.station;
}

abbrev pub decreases-frames : goal.decreases-frames
decreases-frames g l = l.size - l.gate

use Rattle.std.proofs.Common.{◌≡◌, drop}
use Rattle.std.specs.Prelude.{IsTrue, ◌||◌}
use Rattle.pk_engine.specs.State.{State}
use Rattle.pk_engine.specs.Stands.{StandsFor}
use Rattle.pk_run.specs.Told.{run, state_after, told_by, has_refusal}
use Rattle.pk_run.proofs.Runs.{GoesOn}
use Rattle.pk_run.proofs.running.run_pieces.Given as goal

-- for each state at the start there is one now: what was told, and what the rest of the pieces tells from
-- there, is what all of them tell, and the state after the rest is that after all of them
abbrev pub invariant-loop-piece : goal.invariant-loop-piece
invariant-loop-piece g l = record {
  tells : IsTrue (g.W.Station.tells l.fn.station) → IsTrue (g.W.Station.tells l.station);
  unfailed : g.W.Station.sink_faults l.station ≡ g.W.Station.sink_faults l.fn.station;
  some : (st : State) × StandsFor l.engine st;
  goes_on : (st : State) → StandsFor l.fn.engine st
      → (now : State) × StandsFor l.engine now
      × (IsTrue (g.W.Station.tells l.fn.station) → GoesOn (g.W.Station.told l.fn.station) (g.W.Station.told l.station) (told_by (run st l.pieces)) (told_by (run now (drop l.piece-index l.pieces))))
      × (state_after now (drop l.piece-index l.pieces) ≡ state_after st l.pieces)
      × ((l.refused || has_refusal (run now (drop l.piece-index l.pieces))) ≡ has_refusal (run st l.pieces));
}

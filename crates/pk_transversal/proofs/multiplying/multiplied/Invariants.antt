use Rattle.std.proofs.Common.{◌≡◌, ℕ, ◌≤◌, false, take}
use Rattle.pk_transversal.specs.Transversals.{transversals, is_beyond}
use Rattle.pk_transversal.proofs.multiplying.multiplied.Given as goal

-- the sets are the transversals of the edges so far, and no number of these is beyond the limit
abbrev pub invariant-loop-edge : goal.invariant-loop-edge
invariant-loop-edge l = record {
  sets : l.sets.items ≡ transversals (take l.edge-index l.edges);
  count : l.count ≡ l.edge-index;
  few : (j : ℕ) → j ≤ l.edge-index → is_beyond l.limit l.edges j ≡ false;
}

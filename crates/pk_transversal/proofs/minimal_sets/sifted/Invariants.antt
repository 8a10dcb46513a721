use Rattle.std.proofs.Common.{◌≡◌, [], drop}
use Rattle.pk_transversal.specs.Steps.{sifted}
use Rattle.pk_transversal.proofs.minimal_sets.sifted.Given as goal

-- what was found, sifted with the sets that are left, is what all are sifted to
abbrev pub invariant-loop-set : goal.invariant-loop-set
invariant-loop-set l = sifted l.found.items (drop l.set-index l.ordered) ≡ sifted [] l.ordered

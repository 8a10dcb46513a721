use Rattle.std.proofs.Common.{◌≡◌, ◌++◌, drop}
use Rattle.pk_examples.specs.Family.{bears_on}
use Rattle.pk_examples.proofs.EdgeLemmas.{taken}
use Rattle.pk_examples.proofs.listing.bearing.Given as goal

-- with those of the keys that are left they are those of all keys
abbrev pub invariant-loop-key : goal.invariant-loop-key
invariant-loop-key l = l.sets.items ++ taken (bears_on l.sort l.not_null) (drop l.key-index l.keys) ≡ taken (bears_on l.sort l.not_null) l.keys

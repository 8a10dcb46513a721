use Rattle.pk_catalog.proofs.Bits.{HasBelow}
use Rattle.pk_catalog.proofs.keys.number_of.Given as goal

-- the number so far has the columns so far
abbrev pub invariant-loop-c : goal.invariant-loop-c
invariant-loop-c l = HasBelow l.number l.set l.c

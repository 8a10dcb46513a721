use Rattle.pk_sweep.proofs.SetLemmas.{HasBelow}
use Rattle.pk_sweep.proofs.ordering.set_of.Given as goal

-- the set so far has the number's columns so far
abbrev pub invariant-loop-c : goal.invariant-loop-c
invariant-loop-c l = HasBelow l.number l.set l.c

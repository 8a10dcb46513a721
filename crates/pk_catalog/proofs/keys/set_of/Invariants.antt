use Rattle.pk_values.specs.ColumnSet.{IsColumnSet}
use Rattle.pk_catalog.proofs.Bits.{HasBelow}
use Rattle.pk_catalog.proofs.keys.set_of.Given as goal

-- the set so far has the columns so far
abbrev pub invariant-loop-c : goal.invariant-loop-c
invariant-loop-c l = record {
  set : IsColumnSet l.set;
  below : HasBelow l.set l.number l.c;
}

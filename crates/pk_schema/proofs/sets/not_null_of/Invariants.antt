use Rattle.std.proofs.Common.{◌≡◌, take}
use Rattle.pk_values.specs.ColumnSet.{IsColumnSet}
use Rattle.pk_schema.specs.Shapes.{not_null_of}
use Rattle.pk_schema.proofs.sets.not_null_of.Given as goal

-- the set so far is that of the columns so far
abbrev pub invariant-loop-i : goal.invariant-loop-i
invariant-loop-i l = record {
  set : IsColumnSet l.set;
  found : l.set ≡ not_null_of (take l.i l.columns);
}

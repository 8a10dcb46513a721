use Rattle.std.proofs.Common.{◌≡◌, List, [], replicate}
use Rattle.pk_values.specs.declared.value.Value.{Value}
use Rattle.pk_exec.proofs.showing.empty_rows.Given as goal

-- the rows so far
abbrev pub invariant-loop-row : goal.invariant-loop-row
invariant-loop-row l = l.rows.items ≡ replicate {A = List Value} l._row []

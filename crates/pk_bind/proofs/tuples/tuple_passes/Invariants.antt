use Rattle.std.proofs.Common.{◌≡◌}
use Rattle.std.specs.Prelude.{drop}
use Rattle.pk_bind.specs.Insert.{tuple_fault}
use Rattle.pk_bind.proofs.tuples.tuple_passes.Given as goal

-- the columns and literals that are left decide
abbrev pub invariant-loop-i : goal.invariant-loop-i
invariant-loop-i l = tuple_fault l.check (drop l.i l.listed) (drop l.i l.row) ≡ tuple_fault l.check l.listed l.row

use Rattle.std.proofs.Common.{◌≡◌, drop}
use Rattle.pk_values.specs.Refusals.{first_by}
use Rattle.pk_bind.specs.Update.{set_fault}
use Rattle.pk_bind.proofs.updating.sets_fault.Given as goal

-- the parts that are left decide
abbrev pub invariant-loop-set : goal.invariant-loop-set
invariant-loop-set l = first_by (set_fault l.check l.columns) (drop l.set-index l.sets) ≡ first_by (set_fault l.check l.columns) l.sets

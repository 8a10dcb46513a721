use Rattle.std.proofs.Common.{◌≡◌, map, take}
use Rattle.pk_bind.specs.Update.{set_of}
use Rattle.pk_bind.proofs.updating.sets_of.Given as goal

-- the new values so far
abbrev pub invariant-loop-set : goal.invariant-loop-set
invariant-loop-set l = l.made.items ≡ map (set_of l.schema.columns) (take l.set-index l.sets)

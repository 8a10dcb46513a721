use Rattle.std.proofs.Common.{◌≡◌, map, take}
use Rattle.pk_syntax.specs.declared.edit.SetPart.{SetPart}
use Rattle.pk_bind.proofs.updating.names_set.Given as goal

-- the names so far
abbrev pub invariant-loop-set : goal.invariant-loop-set
invariant-loop-set l = l.names.items ≡ map (λ (s : SetPart). s.column) (take l.set-index l.sets)

use Rattle.std.proofs.Common.{◌≡◌, map}
use Rattle.std.specs.Prelude.{take}
use Rattle.pk_schema.specs.Shapes.{key_of}
use Rattle.pk_schema.proofs.sets.keys_of.Given as goal

-- the keys so far are those of the texts so far
abbrev pub invariant-loop-text : goal.invariant-loop-text
invariant-loop-text l = l.keys.items ≡ map (key_of l.columns) (take l.text-index l.texts)

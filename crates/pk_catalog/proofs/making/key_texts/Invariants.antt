use Rattle.std.proofs.Common.{◌≡◌, map}
use Rattle.std.specs.Prelude.{take}
use Rattle.pk_catalog.specs.Making.{key_text_inside}
use Rattle.pk_catalog.proofs.making.key_texts.Given as goal

-- the texts so far are those of the keys so far
abbrev pub invariant-loop-key : goal.invariant-loop-key
invariant-loop-key l = l.texts.items ≡ map (key_text_inside l.columns) (take l.key-index l.keys)

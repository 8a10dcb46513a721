use Rattle.std.proofs.Common.{◌≡◌, map}
use Rattle.pk_parse.specs.declared.table_part.KeyPart.{KeyPart}
use Rattle.pk_parse.proofs.declared.key_texts.Given as goal

abbrev pub invariant-loop-key : goal.invariant-loop-key
invariant-loop-key l = l.texts.items ≡ map (λ (k : KeyPart). k.key) l.yielded

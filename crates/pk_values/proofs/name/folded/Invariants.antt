use Rattle.std.proofs.Common.{◌≡◌}
use Rattle.std.specs.Prelude.{take}
use Rattle.pk_values.specs.Name.{folded}
use Rattle.pk_values.proofs.name.folded.Given as goal

-- the bytes so far are those of the word so far, folded
abbrev pub invariant-loop-byte : goal.invariant-loop-byte
invariant-loop-byte l = l.bytes.items ≡ folded (take l.byte-index l.word)

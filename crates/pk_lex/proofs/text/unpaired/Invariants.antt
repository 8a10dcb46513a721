use Rattle.std.proofs.Common.{◌≡◌, ◌++◌, drop, false}
use Rattle.pk_lex.specs.Texts.{unpaired}
use Rattle.pk_lex.proofs.text.unpaired.Given as goal

abbrev pub invariant-loop-byte : goal.invariant-loop-byte
invariant-loop-byte l = l.bytes.items ++ unpaired l.pending (drop l.byte-index l.quoted) ≡ unpaired false l.quoted

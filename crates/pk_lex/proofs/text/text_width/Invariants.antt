use Rattle.std.proofs.Common.{◌≡◌, drop, false}
use Rattle.pk_lex.specs.Texts.{text_width}
use Rattle.pk_lex.proofs.TextLemmas.{further}
use Rattle.pk_lex.proofs.text.text_width.Given as goal

abbrev pub invariant-loop-i : goal.invariant-loop-i
invariant-loop-i l = further l.i (text_width l.pending (drop l.i l.behind)) ≡ text_width false l.behind

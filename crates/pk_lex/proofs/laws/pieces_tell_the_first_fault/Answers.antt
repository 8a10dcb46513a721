use Rattle.pk_lex.specs.Lexemes.{lexemes}
use Rattle.pk_lex.specs.Pieces.{pieces}
use Rattle.pk_lex.proofs.PieceLemmas.{told_is}
use Rattle.pk_lex.proofs.laws.pieces_tell_the_first_fault.Goals as goal

pub returns : goal.returns
unfolding pieces
returns c = λ script. told_is (lexemes script)

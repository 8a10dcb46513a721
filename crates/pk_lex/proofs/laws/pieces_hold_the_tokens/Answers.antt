use Rattle.pk_lex.specs.Lexemes.{lexemes}
use Rattle.pk_lex.specs.Pieces.{pieces}
use Rattle.pk_lex.proofs.PieceLemmas.{joined_is}
use Rattle.pk_lex.proofs.laws.pieces_hold_the_tokens.Goals as goal

pub returns : goal.returns
unfolding pieces
returns c = λ script faultless. joined_is (lexemes script) faultless

use Rattle.pk_lex.proofs.LexedLemmas.{pieces_are_lexed}
use Rattle.pk_lex.proofs.laws.pieces_are_lexed.Goals as goal

pub returns : goal.returns
returns c = pieces_are_lexed

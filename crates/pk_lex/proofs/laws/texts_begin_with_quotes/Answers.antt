use Rattle.pk_lex.proofs.QuoteLemmas.{text_begins}
use Rattle.pk_lex.proofs.laws.texts_begin_with_quotes.Goals as goal

pub returns : goal.returns
returns c = λ bytes front e h. text_begins bytes front e h

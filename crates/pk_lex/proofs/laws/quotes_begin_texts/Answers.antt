use Rattle.pk_lex.proofs.QuoteLemmas.{quote_begins_text}
use Rattle.pk_lex.proofs.laws.quotes_begin_texts.Goals as goal

pub returns : goal.returns
returns c = λ bytes h. quote_begins_text bytes h

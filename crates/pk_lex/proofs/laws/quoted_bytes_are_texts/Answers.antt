use Rattle.pk_lex.proofs.QuoteLemmas.{front_of_quoted}
use Rattle.pk_lex.proofs.laws.quoted_bytes_are_texts.Goals as goal

pub returns : goal.returns
returns c = λ text behind h. front_of_quoted text behind h

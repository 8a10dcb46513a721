use Rattle.pk_parse.proofs.StatementReading.{reads_the_grammar}
use Rattle.pk_parse.proofs.law.grammar_is_read.Goals as goal

pub returns : goal.returns
returns c = reads_the_grammar

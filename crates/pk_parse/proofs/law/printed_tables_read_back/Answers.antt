use Rattle.pk_parse.proofs.PrintReading.{printed_tables_read_back}
use Rattle.pk_parse.proofs.law.printed_tables_read_back.Goals as goal

pub returns : goal.returns
returns c = printed_tables_read_back

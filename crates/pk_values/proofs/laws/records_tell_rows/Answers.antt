use Rattle.pk_values.proofs.RecordLemmas.{value_records_end, row_records_differ}
use Rattle.pk_values.proofs.laws.records_tell_rows.Goals as goal

pub returns : goal.returns
returns c = record { values = value_records_end; rows = row_records_differ }

use Rattle.pk_catalog.proofs.OneRecord.{one_row_record, one_table_record, one_base_record}
use Rattle.pk_catalog.proofs.laws.records_tell_one.Goals as goal

pub returns : goal.returns
returns c = record { rows = one_row_record; tables = one_table_record; bases = one_base_record }

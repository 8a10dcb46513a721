use Rattle.pk_sheet.proofs.PageReading.{records_more}
use Rattle.pk_sheet.proofs.writing.put_records.Goals as goal

pub loop-record-preserved : goal.loop-record-preserved
loop-record-preserved c =
    records_more c.args.stored.now c.loop-record.record-index c.record-item.result _ _ _ c.loop-record-test.true c.record-item.is c.loop-record.invariant c.in_ok-put_record.ensures

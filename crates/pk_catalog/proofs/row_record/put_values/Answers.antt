use Rattle.pk_catalog.proofs.Rows.{values_more}
use Rattle.pk_catalog.proofs.row_record.put_values.Goals as goal

pub loop-value-preserved : goal.loop-value-preserved
loop-value-preserved c =
    let more = values_more c.args.values.now c.loop-value.value-index _ _ _ _ _ c.loop-value-test.true c.value-item.is c.loop-value.invariant.spelled c.loop-value.invariant.storable
    c.in_ok-put_value.ensures.spelled c.in_ok-put_value.ensures.storable in
    record { spelled = more.0; storable = more.1 }

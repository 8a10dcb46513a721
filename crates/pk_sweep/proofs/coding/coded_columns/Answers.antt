use Rattle.pk_sweep.proofs.CodeLemmas.{column_is_wide, coded_more}
use Rattle.pk_sweep.proofs.coding.coded_columns.Goals as goal

pub coded_column-requires-clause-wide : goal.coded_column-requires-clause-wide
coded_column-requires-clause-wide c = column_is_wide c.args.columns.now c.args.rows.now c.loop-c.c-index c.requires.wide c.loop-c-test.true

pub loop-c-preserved : goal.loop-c-preserved
loop-c-preserved c =
    coded_more c.args.rows.now c.args.columns.now c.loop-c.coded.items c.push.new.self.items c.loop-c.c-index c.in_ok-coded_column.field-0 c.loop-c-test.true c.in_ok-push.ensures.items
    c.loop-c.invariant c.in_ok-coded_column.ensures

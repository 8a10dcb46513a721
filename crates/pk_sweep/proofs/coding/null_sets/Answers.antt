use Rattle.pk_sweep.proofs.CodeLemmas.{row_is_wide}
use Rattle.pk_sweep.proofs.coding.null_sets.Goals as goal

pub null_set-requires-clause-wide : goal.null_set-requires-clause-wide
null_set-requires-clause-wide c = row_is_wide c.args.columns.now c.args.rows.now c.loop-row.row-index c.row-item.result c.requires.wide c.loop-row-test.true c.row-item.is

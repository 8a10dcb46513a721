use Rattle.pk_values.proofs.ColumnOrder.{column_set_cmp_total, numbers_decide_nothing}
use Rattle.pk_values.proofs.laws.sets_are_ordered.Goals as goal

pub returns : goal.returns
returns c = (column_set_cmp_total, numbers_decide_nothing)

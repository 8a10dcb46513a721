use Rattle.pk_exec.proofs.OrderLemmas.{row_total}
use Rattle.pk_exec.proofs.laws.orders_are_total.Goals as goal

pub returns : goal.returns
returns c = row_total

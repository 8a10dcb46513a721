use Rattle.pk_engine.proofs.ShownLemmas.{put_in_order_rows}
use Rattle.pk_engine.proofs.laws.rows_are_put_in_order.Goals as goal

pub returns : goal.returns
returns c = put_in_order_rows c.orders_are_total.ensures

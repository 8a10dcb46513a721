use Rattle.std.proofs.Common.{rules}
use Rattle.std.proofs.lemmas.Fn.{always_returns_same}
use Rattle.pk_exec.proofs.OrderLemmas.{comes_first, row_order, sort_is}
use Rattle.pk_exec.proofs.ordering.sort_rows.Goals as goal

pub returns : goal.returns
returns c =
    let order = c.args.order.now in
    let first = comes_first order in
    sort_is order c.args.rows.now.items c.sort_by.new.self.items
    (c.in_ok-sort_by.ensures.sorted first (row_order order) (always_returns_same _ _ _ (λ a r g called. search rules)))
    (c.sort_by.ensures.stable first (row_order order) (always_returns_same _ _ _ (λ a r g called. search rules)))

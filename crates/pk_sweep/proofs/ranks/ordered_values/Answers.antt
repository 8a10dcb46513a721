use Rattle.std.proofs.Common.{rules, sym, ◌∙◌, ap, map, arith}
use Rattle.std.proofs.lemmas.Fn.{always_returns_same}
use Rattle.pk_values.specs.Values.{value_at}
use Rattle.pk_values.proofs.RowLemmas.{value_read}
use Rattle.pk_sweep.proofs.ListLemmas.{map_taken, taken_all}
use Rattle.pk_sweep.proofs.RankLemmas.{ordered_values_are, values_less, values_order}
use Rattle.pk_sweep.proofs.ranks.ordered_values.Goals as goal

pub loop-row-preserved : goal.loop-row-preserved
loop-row-preserved c =
    c.in_ok-push.ensures.items
    ∙ map_taken (λ row. value_at row c.args.c) c.args.rows.now c.loop-row.values.items c.loop-row.row-index c.row-item.result c.in_ok-copy.field-0 c.loop-row-test.true c.row-item.is
    c.loop-row.invariant
    (c.in_ok-copy.ensures ∙ sym (value_read c.row-item.result c.args.c c.value.result.now c.value.ensures))

pub returns : goal.returns
returns c =
    ordered_values_are c.args.c c.args.rows.now c.loop-row.values.items c.sort_by.new.self.items
    (c.loop-row.invariant ∙ ap (map (λ row. value_at row c.args.c)) (taken_all c.args.rows.now c.loop-row.row-index (omega (arith, c.loop-row-test.false))))
    c.in_ok-sort_by.ensures.permutation
    (c.in_ok-sort_by.ensures.sorted values_less values_order (always_returns_same _ _ _ (λ a r g called. search rules)))

use Rattle.std.proofs.Common.{subst, List, arith}
use Rattle.std.specs.List.{AllZip}
use Rattle.pk_values.specs.declared.value.Value.{Value}
use Rattle.pk_values.specs.Values.{value_at}
use Rattle.pk_values.proofs.RowLemmas.{value_read}
use Rattle.pk_sweep.specs.Coding.{IsRank}
use Rattle.pk_sweep.proofs.ListLemmas.{taken_all}
use Rattle.pk_sweep.proofs.RankLemmas.{ranks_stand, ranks_more}
use Rattle.pk_sweep.proofs.ranks.codes.Goals as goal

pub loop-row-preserved : goal.loop-row-preserved
loop-row-preserved c =
    ranks_more c.args.c c.args.rows.now c.in_ok-ordered.ordered.items c.as_slice.result.now c.loop-row.codes.items c.push.new.self.items c.loop-row.row-index c.row-item.result
    c.value.result.now c.in_ok-rank.field-0 c.loop-row-test.true c.row-item.is c.as_slice.ensures.value (value_read c.row-item.result c.args.c c.value.result.now c.value.ensures)
    c.in_ok-push.ensures.items c.loop-row.invariant c.in_ok-rank.ensures

pub returns : goal.returns
returns c =
    ranks_stand c.args.c c.args.rows.now c.in_ok-ordered.ordered.items c.loop-row.codes.items c.in_ok-ordered.ensures
    (subst (λ (rows : List (List Value)). AllZip (λ row code. IsRank c.in_ok-ordered.ordered.items (value_at row c.args.c) code) rows c.loop-row.codes.items)
    (taken_all c.args.rows.now c.loop-row.row-index (omega (arith, c.loop-row-test.false))) c.loop-row.invariant)

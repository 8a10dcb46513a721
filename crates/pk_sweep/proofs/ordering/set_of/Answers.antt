use Rattle.std.proofs.Common.{◌≡◌, sym, ◌∙◌, subst, arith}
use Rattle.pk_values.proofs.ColumnLemmas.{set_from_columns, columns_nothing}
use Rattle.pk_sweep.proofs.SetLemmas.{HasBelow, nothing_below, has_all}
use Rattle.pk_sweep.proofs.ordering.set_of.Goals as goal

pub loop-c-init : goal.loop-c-init
loop-c-init c =
    nothing_below c.args.number c.empty-set.result
    (set_from_columns c.empty-set.result 0 c.empty-set.ensures.set (omega arith) (c.empty-set.ensures.none ∙ sym columns_nothing))

pub returns : goal.returns
returns c =
    let reached : c.loop-c.c ≡ 32 = omega (arith, c.loop-c-test.false, c.loop-c.auto.c-end) in
    has_all c.args.number c.loop-c.set c.ranges.number.fits (subst (HasBelow c.args.number c.loop-c.set) reached c.loop-c.invariant)

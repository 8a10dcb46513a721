use Rattle.std.proofs.Common.{sym, ◌∙◌, arith}
use Rattle.std.specs.Prelude.{filter}
use Rattle.std.proofs.lemmas.List.{at_drop_all}
use Rattle.pk_guard.specs.Changed.{stays}
use Rattle.pk_guard.specs.Splits.{first_between}
use Rattle.pk_guard.proofs.WalkLemmas.{between_found, between_none, between_done}
use Rattle.pk_guard.proofs.pairs.first_between.Goals as goal

pub returns-in-Some : goal.returns-in-Some
returns-in-Some c =
    between_found c.args.key.now c.args.gone.now c.args.put.now c.args.rows.now c.loop-low.low-index c.low-item.result c.in-Some.high.now c.loop-low-test.true c.low-item.is
    c.in-Some.ensures c.loop-low.invariant

pub loop-low-preserved : goal.loop-low-preserved
loop-low-preserved c =
    between_none c.args.key.now c.args.gone.now c.args.put.now c.args.rows.now c.loop-low.low-index c.low-item.result c.loop-low-test.true c.low-item.is
    c.in_default.ensures c.loop-low.invariant

pub returns : goal.returns
returns c =
    sym (between_done c.args.key.now c.args.put.now)
    ∙ sym (at_drop_all (λ ps. first_between c.args.key.now (filter (stays c.args.gone.now) ps) c.args.put.now) c.args.rows.now c.loop-low.low-index (omega (arith, c.loop-low-test.false)))
    ∙ c.loop-low.invariant

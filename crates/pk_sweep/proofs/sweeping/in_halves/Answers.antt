use Rattle.std.proofs.lemmas.Result.{IfOk-weaker, IfOk-at_ok}
use Rattle.pk_sweep.proofs.MetLemmas.{halves_are}
use Rattle.pk_sweep.proofs.sweeping.in_halves.Goals as goal

pub returns : goal.returns
returns g c =
    IfOk-weaker c.merged.result _ _
    (λ sets merged.
    halves_are c.args.columns.now c.args.nulls.now c.middle-middle.result c.in_ok-first.field-0 c.in_ok-second.field-0 sets c.middle-middle.ensures (IfOk-at_ok _ c.in_ok-first.was c.halves-first.ensures.first)
    (IfOk-at_ok _ c.in_ok-second.was c.halves-first.ensures.second) merged)
    c.merged.ensures

use Rattle.std.proofs.Common.{◌+◌, ◌∙◌, Bool, ap, if◌then◌else◌}
use Rattle.pk_exec.proofs.TakeLemmas.{counts_on}
use Rattle.pk_exec.proofs.reading.count_added.Goals as goal

pub loop-row-preserved : goal.loop-row-preserved
loop-row-preserved c =
    let before = c.loop-row.count in
    counts_on c.args.cond.now c.args.added.now c.loop-row.row-index c.row-item.result before c.count_if.new.count _
    c.loop-row-test.true c.row-item.is (c.in_ok-count_if.ensures ∙ ap (λ (b : Bool). before + (if b then 1 else 0)) c.takes.ensures) c.loop-row.invariant

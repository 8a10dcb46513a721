use Rattle.pk_parse.proofs.Marks.{one_more_kept_at}
use Rattle.pk_parse.proofs.declared.add_marked.Goals as goal

pub loop-mark-preserved : goal.loop-mark-preserved
loop-mark-preserved c =
    one_more_kept_at _ c.args.marks.now c.loop-mark.mark-index _ c.args.keys.now.items c.loop-mark.keys.items c.add_mark.new.keys.items c.loop-mark-test.true c.loop-mark.invariant c.in_ok-add_mark.ensures

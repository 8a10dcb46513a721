use Rattle.keytab.proofs.Written.{written_more, kept_so_far}
use Rattle.keytab.proofs.output.write_whole.Goals as goal
use Rattle.keytab.proofs.output.write_whole.Goals.{in-Ok, in-Err+else-ne}

pub loop-preserved : goal.loop-preserved
loop-preserved g c =
    elim c.match-write.branch [
      | in-Ok w ↦ written_more _ _ _ _ _ _ _ c.loop.invariant.within c.loop.invariant.written w.in-Ok.ensures.bound w.in-Ok.ensures.bytes w.at-is
      | in-Err+else-ne w ↦ kept_so_far _ _ _ _ _ _ c.loop.invariant.within c.loop.invariant.written w.in-Err.ensures.bytes w.at-is
    ]

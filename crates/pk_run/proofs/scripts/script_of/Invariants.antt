use Rattle.std.proofs.Common.{◌≡◌, ◌+◌, ◌-◌, ◌≤◌, ◌++◌, vec_len}
use Rattle.std.specs.Prelude.{IsTrue}
use Rattle.pk_run.specs.declared.scripts.TheConstants.{MOST_SCRIPT}
use Rattle.pk_run.proofs.scripts.script_of.Given as goal

-- the bytes so far and those that are left make up the script
abbrev pub invariant-loop-room : goal.invariant-loop-room
invariant-loop-room g l = record {
  tells : IsTrue (g.S.Source.tells l.fn.source) → IsTrue (g.S.Source.tells l.source);
  bytes : IsTrue (g.S.Source.tells l.fn.source) → g.S.Source.rest l.fn.source ≡ l.script.items ++ g.S.Source.rest l.source;
  fits : vec_len l.script ≤ MOST_SCRIPT + 1;
  unfailed : g.S.Source.faults l.source ≡ g.S.Source.faults l.fn.source;
}

abbrev pub decreases-loop-room : goal.decreases-loop-room
decreases-loop-room g l = MOST_SCRIPT + 1 - vec_len l.script

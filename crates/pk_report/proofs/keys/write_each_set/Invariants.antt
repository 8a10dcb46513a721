use Rattle.std.proofs.Common.{◌≡◌, ◌++◌, take}
use Rattle.std.specs.List.{flat_map}
use Rattle.pk_report.specs.Text.{set_line}
use Rattle.pk_report.proofs.keys.write_each_set.Given as goal

-- what was there, and the sets so far
abbrev pub invariant-loop-set : goal.invariant-loop-set
invariant-loop-set l = l.out.items ≡ l.fn.out.items ++ flat_map (set_line l.sort l.names) (take l.set-index l.sets)

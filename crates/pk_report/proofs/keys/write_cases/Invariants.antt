use Rattle.std.proofs.Common.{◌≡◌, ◌++◌, take}
use Rattle.std.specs.List.{flat_map}
use Rattle.pk_report.specs.Text.{case_text}
use Rattle.pk_report.proofs.keys.write_cases.Given as goal

-- what was there, and the cases so far
abbrev pub invariant-loop-case : goal.invariant-loop-case
invariant-loop-case l = l.out.items ≡ l.fn.out.items ++ flat_map (case_text l.names) (take l.case-index l.cases)

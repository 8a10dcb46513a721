use Rattle.std.proofs.Common.{◌≡◌, ◌++◌, take}
use Rattle.std.specs.List.{flat_map}
use Rattle.pk_report.specs.Part.{part_text}
use Rattle.pk_report.proofs.line.write_line.Given as goal

-- what was there, and the parts so far
abbrev pub invariant-loop-part : goal.invariant-loop-part
invariant-loop-part l = l.out.items ≡ l.fn.out.items ++ flat_map part_text (take l.part-index l.parts)

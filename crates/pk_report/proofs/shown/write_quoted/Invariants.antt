use Rattle.std.proofs.Common.{◌≡◌, ◌++◌, take, codes}
use Rattle.std.specs.List.{flat_map}
use Rattle.pk_report.specs.Text.{quoted_byte}
use Rattle.pk_report.proofs.shown.write_quoted.Given as goal

-- what was there, the quote, and the bytes so far
abbrev pub invariant-loop-byte : goal.invariant-loop-byte
invariant-loop-byte l = l.out.items ≡ l.fn.out.items ++ codes "'" ++ flat_map quoted_byte (take l.byte-index l.bytes)

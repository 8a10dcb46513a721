use Rattle.std.proofs.Common.{◌≡◌, ◌++◌}
use Rattle.std.specs.Prelude.{take}
use Rattle.std.specs.List.{flat_map}
use Rattle.pk_sheet.specs.Pages.{record_bytes}
use Rattle.pk_sheet.proofs.writing.put_records.Given as goal

-- the records so far are written
abbrev pub invariant-loop-record : goal.invariant-loop-record
invariant-loop-record l = l.out.items ≡ l.fn.out.items ++ flat_map record_bytes (take l.record-index l.stored)

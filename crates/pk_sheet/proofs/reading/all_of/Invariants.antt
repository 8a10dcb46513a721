use Rattle.std.proofs.Common.{◌≡◌, ◌-◌}
use Rattle.pk_sheet.specs.Reading.{all_at}
use Rattle.pk_sheet.proofs.Lists.{with_front}
use Rattle.pk_sheet.proofs.reading.all_of.Given as goal

-- the records so far, and those that are left, are all records
abbrev pub invariant-loop : goal.invariant-loop
invariant-loop l = with_front l.records.items (all_at (l.count - l.counter) l.rest) ≡ all_at l.count l.bytes

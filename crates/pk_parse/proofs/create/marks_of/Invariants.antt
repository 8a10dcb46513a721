use Rattle.std.proofs.Common.{◌≡◌, ◌-◌, length}
use Rattle.pk_parse.specs.Create.{marks_at}
use Rattle.pk_parse.proofs.MarkReading.{with_marks}
use Rattle.pk_parse.proofs.create.marks_of.Given as goal

-- the marks so far, and those that are left, are all marks
abbrev pub invariant-loop : goal.invariant-loop
invariant-loop l = with_marks l.marks.items (marks_at (l.end - l.counter) l.rest) ≡ marks_at (length l.tokens) l.tokens

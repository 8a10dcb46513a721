use Rattle.std.proofs.Common.{◌≡◌, ◌+◌, drop, length}
use Rattle.pk_exec.specs.Reading.{kept_rows}
use Rattle.pk_exec.proofs.reading.count_added.Given as goal

-- the rows counted so far, and those to come, are all
abbrev pub invariant-loop-row : goal.invariant-loop-row
invariant-loop-row l = l.count + length (kept_rows l.cond (drop l.row-index l.added)) ≡ l.fn.count + length (kept_rows l.cond l.added)

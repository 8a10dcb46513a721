use Rattle.std.proofs.Common.{◌≡◌, ◌++◌, drop}
use Rattle.pk_exec.specs.Reading.{kept_rows}
use Rattle.pk_exec.proofs.reading.take_added.Given as goal

-- the rows taken so far, and those to come, are all
abbrev pub invariant-loop-row : goal.invariant-loop-row
invariant-loop-row l = l.rows.items ++ kept_rows l.cond (drop l.row-index l.added) ≡ l.fn.rows.items ++ kept_rows l.cond l.added

use Rattle.std.proofs.Common.{◌≡◌, ◌+◌, drop}
use Rattle.std.specs.Prelude.{sum_by}
use Rattle.pk_exec.specs.Works.{edit_count}
use Rattle.pk_exec.proofs.work.Work.size.Given as goal

-- the rows counted so far and those of the tables to come are all
abbrev pub invariant-loop-table : goal.invariant-loop-table
invariant-loop-table l = l.size + sum_by edit_count (drop l.table-index l.table-items) ≡ sum_by edit_count l.fn.self.tables

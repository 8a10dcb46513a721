use Rattle.std.proofs.Common.{◌≡◌, ◌+◌, ◌≤◌, not, drop}
use Rattle.std.specs.Prelude.{sum_by}
use Rattle.std.specs.List.{filter}
use Rattle.pk_exec.specs.Works.{most_changes, edit_count, is_for}
use Rattle.pk_exec.proofs.work.Work.size_elsewhere.Given as goal

-- the rows counted so far, and those of the other tables to come, are all; they are no more than may be changed
abbrev pub invariant-loop-edits : goal.invariant-loop-edits
invariant-loop-edits l =
    (l.size + sum_by edit_count (filter (λ t. not (is_for l.table t)) (drop l.edits-index l.edits-items))
    ≡ sum_by edit_count (filter (λ t. not (is_for l.table t)) l.edits-items))
    × (sum_by edit_count (filter (λ t. not (is_for l.table t)) l.edits-items) ≤ most_changes)

use Rattle.std.proofs.Common.{◌≡◌, ◌+◌, ◌++◌, length}
use Rattle.pk_exec.specs.Changes.{placed_from}
use Rattle.pk_exec.specs.Told.{put_edits}
use Rattle.pk_exec.proofs.work.telling.put_rows.Given as goal

-- the rows put so far, and those to come under the ids to come, are all
abbrev pub invariant-loop-row : goal.invariant-loop-row
invariant-loop-row l =
    (l.rows.items ++ placed_from l.id l.row-iterator.rest.items ≡ put_edits l.fn.edited.items ++ placed_from l.next l.fn.added.items)
    × (l.id + length l.row-iterator.rest.items ≡ l.next + length l.fn.added.items)

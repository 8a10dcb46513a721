use Rattle.std.proofs.Common.{◌≡◌, ◌++◌}
use Rattle.pk_exec.specs.Told.{put_edits}
use Rattle.pk_exec.proofs.work.telling.edited_rows.Given as goal

abbrev pub invariant-loop-edit : goal.invariant-loop-edit
invariant-loop-edit l = l.rows.items ++ put_edits l.edit-iterator.rest.items ≡ put_edits l.fn.edited.items

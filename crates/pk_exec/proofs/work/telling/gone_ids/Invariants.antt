use Rattle.std.proofs.Common.{◌≡◌, ◌++◌, drop}
use Rattle.pk_exec.specs.Told.{gone_edits}
use Rattle.pk_exec.proofs.work.telling.gone_ids.Given as goal

abbrev pub invariant-loop-edit : goal.invariant-loop-edit
invariant-loop-edit l = l.ids.items ++ gone_edits (drop l.edit-index l.edited) ≡ gone_edits l.edited

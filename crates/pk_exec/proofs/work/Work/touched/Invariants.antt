use Rattle.std.proofs.Common.{◌≡◌, take}
use Rattle.pk_exec.specs.Works.{edit_ids}
use Rattle.pk_exec.proofs.work.Work.touched.Given as goal

abbrev pub invariant-loop-edit : goal.invariant-loop-edit
invariant-loop-edit l = l.ids.items ≡ edit_ids (take l.edit-index l.edited)

use Rattle.std.proofs.Common.{◌≡◌, drop}
use Rattle.std.specs.List.{find}
use Rattle.pk_exec.specs.Works.{is_for}
use Rattle.pk_exec.proofs.work.Work.edits_of.Given as goal

-- the edits of no table so far are those asked for
abbrev pub invariant-loop-edits : goal.invariant-loop-edits
invariant-loop-edits l = find (is_for l.table) (drop l.edits-index l.edits-items) ≡ find (is_for l.table) l.edits-items

use Rattle.std.proofs.Common.{◌≡◌, ◌++◌, map, drop}
use Rattle.std.specs.List.{filter}
use Rattle.pk_exec.specs.Works.{TableEdits, has_edits}
use Rattle.pk_exec.proofs.work.Work.tables.Given as goal

-- the tables told so far, and those to come, are all
abbrev pub invariant-loop-edits : goal.invariant-loop-edits
invariant-loop-edits l =
    l.tables.items ++ map (λ (t : TableEdits). t.table) (filter has_edits (drop l.edits-index l.edits-items))
    ≡ map (λ (t : TableEdits). t.table) (filter has_edits l.edits-items)

use Rattle.std.proofs.Common.{drop}
use Rattle.pk_exec.proofs.AddedLemmas.{IsAddedTo}
use Rattle.pk_exec.proofs.draft.Draft.change_added.Given as goal

abbrev pub invariant-loop-row : goal.invariant-loop-row
invariant-loop-row l = IsAddedTo l.change l.added (drop l.row-index l.added) l.fn.self l.self

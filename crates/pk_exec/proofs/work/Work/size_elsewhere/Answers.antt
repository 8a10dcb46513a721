use Rattle.std.proofs.Common.{sym, subst, arith, List, ◌≤◌, not}
use Rattle.std.specs.Prelude.{sum_by}
use Rattle.std.specs.List.{filter}
use Rattle.pk_exec.specs.Works.{most_changes, TableEdits, edit_count, is_for}
use Rattle.pk_exec.proofs.WorkLemmas.{elsewhere_in_few}
use Rattle.pk_exec.proofs.work.Work.size_elsewhere.Goals as goal

pub loop-edits-init : goal.loop-edits-init
loop-edits-init c = (
  omega arith,
  subst (λ (ts : List TableEdits). sum_by edit_count (filter (λ t. not (is_for c.args.table t)) ts) ≤ most_changes) (sym c.deref-edits-items.ensures.value)
      (elsewhere_in_few (record { tables = c.self.inside.tables.items }) c.args.table c.self.invariant),
)

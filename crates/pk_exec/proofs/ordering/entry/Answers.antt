use Rattle.std.proofs.Common.{◌∙◌, sym, subst, ℕ, ◌≤◌}
use Rattle.pk_values.proofs.RowLemmas.{value_read}
use Rattle.pk_exec.proofs.RowLemmas.{value_past}
use Rattle.pk_exec.proofs.ordering.entry.Goals as goal

pub returns-then-column-width : goal.returns-then-column-width
returns-then-column-width c = sym (value_read c.args.row.now c.args.column c.value.result.now c.value.ensures)

pub returns-else-column-width : goal.returns-else-column-width
returns-else-column-width c = c.requires ∙ sym (value_past c.args.row.now c.args.column (subst (λ (w : ℕ). w ≤ c.args.column) c.width.ensures.width c.if-column-width.false))

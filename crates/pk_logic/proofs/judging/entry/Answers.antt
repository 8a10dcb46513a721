use Rattle.std.proofs.Common.{sym}
use Rattle.pk_values.proofs.RowLemmas.{value_read}
use Rattle.pk_logic.proofs.judging.entry.Goals as goal

pub returns : goal.returns
returns c = sym (value_read c.args.row.now c.args.column c.value.result.now c.value.ensures)

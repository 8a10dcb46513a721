use Rattle.std.proofs.Common.{refl, true, false}
use Rattle.pk_values.proofs.RowLemmas.{value_read}
use Rattle.pk_sweep.proofs.CodeLemmas.{null_told}
use Rattle.pk_sweep.proofs.coding.null_bit.Goals as goal

pub returns-then-is_null : goal.returns-then-is_null
returns-then-is_null c =
    null_told c.args.row.now c.args.c c.alone.result c.value.result.now c.is_null.result true (value_read c.args.row.now c.args.c c.value.result.now c.value.ensures) c.is_null.ensures
    c.if-is_null.true c.alone.ensures

pub returns-else-is_null : goal.returns-else-is_null
returns-else-is_null c =
    null_told c.args.row.now c.args.c 0 c.value.result.now c.is_null.result false (value_read c.args.row.now c.args.c c.value.result.now c.value.ensures) c.is_null.ensures
    c.if-is_null.false refl

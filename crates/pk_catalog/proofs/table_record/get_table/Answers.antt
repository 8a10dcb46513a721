use Rattle.std.proofs.Common.{arith}
use Rattle.pk_catalog.proofs.OneRecord.{short_found}
use Rattle.pk_catalog.proofs.TableMaking.{table_given, table_error}
use Rattle.pk_catalog.proofs.table_record.get_table.Goals as goal

pub table_of-requires : goal.table_of-requires
table_of-requires c = short_found c.args.bytes.now c.in-Ok.parts (λ i. omega (arith, c.type_inv.bytes i)) c.in-Ok.ensures

pub returns-in-Ok : goal.returns-in-Ok
returns-in-Ok c = table_given c.args.bytes.now c.in-Ok.parts c.table_of.result (λ i. omega (arith, c.type_inv.bytes i)) c.in-Ok.ensures c.table_of.ensures

pub returns-in-Err : goal.returns-in-Err
returns-in-Err c = table_error _ _ c.in-Err.ensures

use Rattle.std.proofs.Common.{◌≡◌, sym, ap, length, Some, None, arith}
use Rattle.pk_schema.specs.Admits.{row_fault}
use Rattle.pk_catalog.proofs.Rows.{row_error, row_found, row_refused}
use Rattle.pk_catalog.proofs.row_record.get_row.Goals as goal

pub returns-in-Err : goal.returns-in-Err
returns-in-Err c = row_error c.admitted_rows_fit.ensures _ _ _ _ (sym (ap length c.columns.ensures.columns)) c.in-Err.ensures

pub returns-in-Ok-admits : goal.returns-in-Ok-admits
returns-in-Ok-admits c =
    let none = c.in-Ok-admits.ensures in
    let seen = c.row.view_is in
    let admitted : row_fault c.args.schema.now c.in-Ok.row ≡ None = cc in
    row_found c.args.schema.now _ c.args.bytes.now c.in-Ok.row (λ i. omega (arith, c.type_inv.bytes i)) c.in-Ok.ensures admitted

pub returns-in-Err-admits : goal.returns-in-Err-admits
returns-in-Err-admits c = λ x is.
    let some = c.in-Err-admits.ensures in
    let seen = c.row.view_is in
    let refused : row_fault c.args.schema.now c.in-Ok.row ≡ Some c.in-Err-admits.field-0 = cc in
    row_refused c.admitted_rows_fit.ensures c.args.schema.now _ c.args.bytes.now c.in-Ok.row c.in-Err-admits.field-0 (sym (ap length c.columns.ensures.columns)) c.in-Ok.ensures refused x is

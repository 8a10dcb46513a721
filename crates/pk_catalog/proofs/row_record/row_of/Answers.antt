use Rattle.std.proofs.Common.{◌≡◌, length, arith}
use Rattle.pk_catalog.proofs.Rows.{row_width}
use Rattle.pk_catalog.proofs.row_record.row_of.Goals as goal

pub make-requires : goal.make-requires
make-requires c =
    let count = row_width c.args.width c.args.bytes.now c.in_ok-values.rest.now c.in_ok-values.values (λ i. omega (arith, c.type_inv.bytes i)) c.in_ok-values.ensures in
    let taken = c.into_vec.ensures in
    let seen = c.values.view_is in
    let same : length c.into_vec.result.items ≡ length c.in_ok-values.values = cc in
    let most = c.requires in
    omega (arith, same, count, most)

use Rattle.std.proofs.Common.{◌<◌, length, ap, sym, ◌∙◌, arith}
use Rattle.std.proofs.Math.ListN.{set}
use Rattle.std.proofs.lemmas.List.Edits.{map_over_more}
use Rattle.pk_txn.specs.Contents.{kept}
use Rattle.pk_txn.proofs.book.keep_in.Goals as goal

pub loop-transaction-preserved : goal.loop-transaction-preserved
loop-transaction-preserved c =
    let within : c.loop-transaction.transaction-index < length c.args.opened.now = omega arith in
    let f = kept c.args.commit c.args.key c.args.row.now in
    ap (set c.loop-transaction.opened c.loop-transaction.transaction-index) (c.in_ok-keep.ensures ∙ sym (ap f c.transaction-item.is))
    ∙ map_over_more f c.args.opened.now c.loop-transaction.opened c.loop-transaction.transaction-index
    c.transaction-item.result within c.loop-transaction.invariant c.transaction-item.is

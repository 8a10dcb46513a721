use Rattle.std.proofs.Common.{◌∙◌, sym}
use Rattle.pk_txn.proofs.NoteLemmas.{passed_over}
use Rattle.pk_txn.proofs.transaction.Transaction.conflict.Goals as goal

pub loop-id-preserved : goal.loop-id-preserved
loop-id-preserved c =
    passed_over c.args.self.now.images c.args.table c.loop-id.id-index c.args.ids.now c.loop-id-test.true (sym c.in_default.ensures) ∙ c.loop-id.invariant

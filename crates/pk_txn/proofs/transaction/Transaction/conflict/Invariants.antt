use Rattle.std.proofs.Common.{◌≡◌, drop}
use Rattle.pk_txn.specs.Images.{first_conflict}
use Rattle.pk_txn.proofs.transaction.Transaction.conflict.Given as goal

-- the first conflict of what is left is that of all
abbrev pub invariant-loop-id : goal.invariant-loop-id
invariant-loop-id l = first_conflict l.self.images l.table (drop l.id-index l.ids) ≡ first_conflict l.self.images l.table l.ids

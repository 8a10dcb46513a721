use Rattle.std.proofs.Common.{◌≡◌, ◌++◌, map, take, drop}
use Rattle.pk_txn.specs.Contents.{kept}
use Rattle.pk_txn.proofs.book.keep_in.Given as goal

-- those so far have noted it, and the others are as they were
abbrev pub invariant-loop-transaction : goal.invariant-loop-transaction
invariant-loop-transaction l =
    l.opened ≡ map (kept l.commit l.key l.row) (take l.transaction-index l.initial.opened) ++ drop l.transaction-index l.initial.opened

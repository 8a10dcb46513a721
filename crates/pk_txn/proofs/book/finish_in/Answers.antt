use Rattle.std.proofs.Common.{rules, not}
use Rattle.std.proofs.lemmas.Fn.{filter_same}
use Rattle.pk_txn.specs.Contents.{Opened, of_session}
use Rattle.pk_txn.proofs.book.finish_in.Goals as goal

-- the closure keeps the other sessions' transactions
pub returns-clause-left : goal.returns-clause-left
returns-clause-left c =
    filter_same _ (λ (t : Opened). not (of_session c.args.session.now t)) _ (λ x b g called. (search rules, search rules)) _ _ c.retain.ensures.filtered

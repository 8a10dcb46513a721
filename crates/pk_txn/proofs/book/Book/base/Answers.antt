use Rattle.std.proofs.Common.{rules}
use Rattle.pk_txn.proofs.SessionLemmas.{base_is_open}
use Rattle.pk_txn.proofs.book.Book.base.Goals as goal

pub returns-clause-is_open : goal.returns-clause-is_open
returns-clause-is_open c = base_is_open c.args.session.now c.args.self.now c.map.result (search rules)

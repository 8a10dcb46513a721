use Rattle.std.proofs.Common.{Bool, Some, ap, subst, cond, ◌∙◌}
use Rattle.std.specs.BTreeMap.{is_at, get}
use Rattle.std.specs.Ordering.{nat_cmp}
use Rattle.pk_txn.specs.Indexed.{IsRowIndexed}
use Rattle.pk_txn.proofs.StoreLemmas.{stored}
use Rattle.pk_txn.proofs.transaction.store.Goals as goal

pub returns-clause-indexed : goal.returns-clause-indexed
returns-clause-indexed c =
    let key = c.args.key in
    let there = subst (λ (b : Bool). IsRowIndexed key b c.args.rows.now.keys c.index_row.new.rows.keys) c.is_some.ensures c.in_ok-index_row.ensures in
    stored c.args.images.now.entries c.insert-2.new.self.entries c.args.rows.now.keys c.index_row.new.rows.keys c.args.changed.now.entries c.insert.new.self.entries
    key c.args.image c.requires.absent c.in_ok-insert-2.ensures.updates.0 c.requires.indexed there
    (λ t. c.in_ok-insert.ensures.updates.0 t ∙ ap (λ n. cond (is_at (nat_cmp key.table) t) (Some n) (get nat_cmp c.args.changed.now t)) c.earliest-first.ensures)

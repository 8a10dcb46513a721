use Rattle.std.proofs.Common.{◌==◌, List, Option, ℕ, None, refl, sym, subst, ap}
use Rattle.std.specs.Bool.{then_some}
use Rattle.pk_txn.specs.declared.image.Image.{Image}
use Rattle.pk_txn.specs.declared.row_key.RowKey.{RowKey}
use Rattle.pk_txn.specs.Images.{IsNextImage}
use Rattle.pk_txn.proofs.NextLemmas.{range_first, range_empty, next_found, next_none}
use Rattle.pk_txn.proofs.transaction.Transaction.next_image.Goals as goal

pub returns-in-Some : goal.returns-in-Some
returns-in-Some c =
    let t = c.args.table in
    let i = c.args.id in
    let here = c.self.inside in
    let key = c.in-Some.key.now in
    let first = range_first here.rows t i c.range.result key c.next.new.self (c.range.ensures.in_range tt) c.in-Some.ensures.steps in
    subst (λ (o : Option ℕ). IsNextImage c.args.self.now.images t i o) (sym c.then_some.ensures)
    (subst (λ (images : List (RowKey × Image)). IsNextImage images t i (then_some (key.table == t) key.id)) (ap (λ v. v.images) c.self.view_is)
    (next_found here.images.entries here.rows.keys c.self.invariant.were_there t i key first.0 first.1 first.2 _ refl))

pub returns-in-None : goal.returns-in-None
returns-in-None c =
    let t = c.args.table in
    let i = c.args.id in
    let here = c.self.inside in
    subst (λ (images : List (RowKey × Image)). IsNextImage images t i None) (ap (λ v. v.images) c.self.view_is)
    (next_none here.images.entries here.rows.keys c.self.invariant.were_there t i
    (range_empty here.rows t i c.range.result (c.range.ensures.in_range tt) c.in-None.ensures.steps.0))

use Rattle.std.proofs.Common.{Some, ap, cond, ◌∙◌}
use Rattle.std.specs.BTreeMap.{is_at}
use Rattle.std.specs.BTreeMap as tree
use Rattle.pk_rows.specs.Maps.{place_cmp}
use Rattle.pk_rows.proofs.CommitLemmas.{one_put}
use Rattle.pk_rows.proofs.memory_rows.put_all.Goals as goal

pub loop-stored-preserved : goal.loop-stored-preserved
loop-stored-preserved c =
    let stored = c.stored-item.result in
    one_put c.loop-stored.stored-index c.args.put.now stored c.loop-stored.rows.entries c.insert.new.self.entries c.loop-stored-test.true c.stored-item.is
    (λ q. c.in_ok-insert.ensures.updates.0 q
    ∙ ap (λ b. cond (is_at (place_cmp stored.place) q) (Some b) (tree.get place_cmp c.loop-stored.rows q)) (c.in_ok-bytes.ensures ∙ c.as_slice.ensures))
    ∙ c.loop-stored.invariant

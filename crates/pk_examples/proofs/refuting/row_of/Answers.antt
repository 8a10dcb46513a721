use Rattle.std.proofs.Common.{◌∙◌, arith}
use Rattle.pk_examples.specs.Entries.{entry_by}
use Rattle.pk_examples.proofs.EntryLemmas.{row_seen, row_short}
use Rattle.pk_examples.proofs.refuting.row_of.Goals as goal

pub loop-i-preserved : goal.loop-i-preserved
loop-i-preserved c =
    c.in_ok-push.ensures.items
    ∙ row_seen (entry_by c.args.nulls c.args.marked) _ _ _ _ _ c.loop-i-test.true c.index-columns-i.is c.in_ok-entry.ensures c.loop-i.invariant

pub make-requires : goal.make-requires
make-requires c =
    let few = row_short (entry_by c.args.nulls c.args.marked) _ _ _ (omega (arith, c.loop-i.auto.i-end)) c.loop-i.invariant in
    let most = c.requires in
    omega (arith, few, most)

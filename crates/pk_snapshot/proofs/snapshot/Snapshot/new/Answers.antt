use Rattle.pk_txn.specs.Contents.{transaction_of}
use Rattle.pk_snapshot.proofs.WalkLemmas.{seen_ascend}
use Rattle.pk_snapshot.proofs.snapshot.Snapshot.new.Goals as goal

-- the rows of now ascend from 1, and no image gives back a lower one
pub invariant_of-result : goal.invariant_of-result
invariant_of-result c = record {
  is_open = c.requires.is_open;
  ascend = c.requires.ascend;
  seen_ascend = seen_ascend (transaction_of c.args.session.now c.args.book.now) c.args.table c.args.rows.now c.requires.ascend c.requires.no_zero;
  stays = tt;
  is_next = c.next_image-next.ensures;
}

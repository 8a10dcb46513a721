use Rattle.pk_index.proofs.ShelfLemmas.{put_at}
use Rattle.pk_index.proofs.shelf.Shelf.put.Goals as goal

pub returns : goal.returns
returns g c = put_at _ _ _ c.args.key c.args.id c.in_ok-insert.ensures.updates

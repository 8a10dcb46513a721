use Rattle.pk_index.proofs.ShelfLemmas.{taken_at}
use Rattle.pk_index.proofs.shelf.Shelf.take.Goals as goal

pub returns : goal.returns
returns g c = taken_at _ _ _ c.args.key c.args.id c.remove.ensures.updates

use Rattle.pk_index.proofs.StrongLemmas.{shows_nothing}
use Rattle.pk_index.proofs.strong_index.StrongIndex.new.Goals as goal

pub returns-clause-shows : goal.returns-clause-shows
returns-clause-shows c = shows_nothing _ c.new.ensures

use Rattle.pk_index.proofs.PatternLemmas.{shows_nothing}
use Rattle.pk_index.proofs.pattern_index.PatternIndex.new.Goals as goal

pub returns-clause-shows : goal.returns-clause-shows
returns-clause-shows c = shows_nothing _ c.new.ensures.empty c.new-2.ensures

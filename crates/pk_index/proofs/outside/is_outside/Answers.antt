use Rattle.std.proofs.Common.{◌∙◌}
use Rattle.pk_values.proofs.SearchLemmas.{among_searched}
use Rattle.pk_index.proofs.outside.is_outside.Goals as goal

pub returns : goal.returns
returns c = c.is_ok.ensures.value ∙ among_searched c.args.outside.now c.args.id c.binary_search.result c.binary_search.ensures.position c.requires

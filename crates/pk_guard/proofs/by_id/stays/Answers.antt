use Rattle.std.proofs.Common.{◌∙◌}
use Rattle.pk_guard.proofs.IdLemmas.{stays_searched}
use Rattle.pk_guard.proofs.by_id.stays.Goals as goal

pub returns : goal.returns
returns c = c.is_err.ensures.value ∙ stays_searched c.args.gone.now c.args.row.now c.binary_search.result c.binary_search.ensures.position c.requires

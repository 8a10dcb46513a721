use Rattle.pk_index.proofs.FilingLemmas.{filed_as_asked}
use Rattle.pk_index.proofs.laws.projections_tell_rows.Goals as goal

pub returns : goal.returns
returns c = filed_as_asked

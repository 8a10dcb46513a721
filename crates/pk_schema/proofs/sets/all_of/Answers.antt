use Rattle.pk_schema.proofs.SetLemmas.{all_columns}
use Rattle.pk_schema.proofs.sets.all_of.Goals as goal

pub returns-clause-columns : goal.returns-clause-columns
returns-clause-columns c = all_columns _ _ c.below.ensures.members

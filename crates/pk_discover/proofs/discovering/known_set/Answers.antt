use Rattle.std.proofs.Common.{◌∙◌, subst}
use Rattle.pk_values.specs.ColumnSet.{IsColumnSet, has_column}
use Rattle.pk_values.proofs.ColumnLemmas.{same_set}
use Rattle.pk_discover.proofs.SetLemmas.{or_itself}
use Rattle.pk_discover.proofs.discovering.known_set.Goals as goal

pub returns-clause-set : goal.returns-clause-set
returns-clause-set c =
    subst IsColumnSet (same_set c.plus.result c.args.columns (λ k. c.plus.ensures.members k ∙ or_itself (has_column c.args.columns k))) c.plus.ensures.set

pub returns-clause-same : goal.returns-clause-same
returns-clause-same c = same_set c.plus.result c.args.columns (λ k. c.plus.ensures.members k ∙ or_itself (has_column c.args.columns k))

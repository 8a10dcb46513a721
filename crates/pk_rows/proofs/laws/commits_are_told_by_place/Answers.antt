use Rattle.pk_rows.proofs.CommitLemmas.{told_by_place}
use Rattle.pk_rows.proofs.laws.commits_are_told_by_place.Goals as goal

pub returns : goal.returns
returns c = told_by_place

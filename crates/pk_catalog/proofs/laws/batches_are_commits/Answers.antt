use Rattle.pk_catalog.proofs.Committing.{batches_are_commits}
use Rattle.pk_catalog.proofs.laws.batches_are_commits.Goals as goal

pub returns : goal.returns
returns c = batches_are_commits

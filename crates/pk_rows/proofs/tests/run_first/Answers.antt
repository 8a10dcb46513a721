use Rattle.std.proofs.Common.{sym, subst}
use Rattle.std.specs.FinMap.{empty}
use Rattle.pk_rows.specs.declared.batch.Batch.{Batch}
use Rattle.pk_rows.specs.Batches.{CanCommit}
use Rattle.pk_rows.proofs.tests.run_first.Goals as goal

pub commit-requires : goal.commit-requires
commit-requires c = (empty, sym c.requires, subst (λ (b : Batch). CanCommit b empty) (sym c.in_ok-batch.ensures) c.example_is_run.ensures.may_run.0)

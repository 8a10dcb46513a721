use Rattle.std.proofs.Common.{List, [], ◌∷◌, sym, subst}
use Rattle.std.specs.FinMap.{empty}
use Rattle.pk_rows.specs.declared.batch.Batch.{Batch}
use Rattle.pk_rows.specs.Batches.{CanRun}
use Rattle.pk_rows.proofs.tests.run_example.Goals as goal

pub run_batches-requires : goal.run_batches-requires
run_batches-requires c = (
  empty,
  sym c.requires,
  subst (λ (bs : List Batch). CanRun bs empty)
      (λ i. (sym c.in_ok-first.ensures) i ∷ (sym c.in_ok-second.ensures) i ∷ (sym c.in_ok-third.ensures) i ∷ []) c.example_is_run.ensures.may_run,
)

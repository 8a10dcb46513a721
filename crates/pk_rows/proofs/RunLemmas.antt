-- A list of batches, one batch after the other.
use Rattle.std.proofs.Common.{◌≡◌, ℕ, suc, ◌+◌, ◌<◌, List, [], ◌∷◌, length, get_or, drop, drop-cons, add-one, sym, ap, ◌∙◌, subst}
use Rattle.pk_rows.specs.declared.batch.Batch.{Batch}
use Rattle.pk_rows.specs.Maps.{Map, committed, after}
use Rattle.pk_rows.specs.Batches.{CanCommit, CanRun}

module _ (i : ℕ) (batches : List Batch) (batch : Batch) (within : i < length batches) (is : batch ≡ get_or batches i batch) where
  whole : drop i batches ≡ batch ∷ drop (i + 1) batches
  whole = drop-cons batches i batch within ∙ ap (λ b. b ∷ drop (suc i) batches) (sym is) ∙ ap (λ n. batch ∷ drop n batches) (sym (add-one i))

  pub runs_on : (m : Map) → CanRun (drop i batches) m → CanCommit batch m × CanRun (drop (i + 1) batches) (committed batch m)
  runs_on m h = subst (λ bs. CanRun bs m) whole h

  pub after_on : (m : Map) → after (drop (i + 1) batches) (committed batch m) ≡ after (drop i batches) m
  after_on m = ap (λ bs. after bs m) (sym whole)

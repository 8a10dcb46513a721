use Rattle.std.proofs.Common.{suc, ◌+◌, arith}
use Rattle.pk_similar.proofs.RowLemmas.{strong_agree, row_weight, freshened, freshened_completes, freshened_strong}
use Rattle.pk_similar.proofs.laws.strong_rows_must_agree.Goals as goal

-- rows that agree with nulls replaced by two values that are in neither of them agree without these
pub returns : goal.returns
returns c = λ kinds a b cs fits_a fits_b below. (
  (λ similar full_a full_b done. strong_agree kinds a b full_a full_b done.0 done.1 cs similar),
  (λ must.
      let i = suc (row_weight a + row_weight b) in
      freshened_strong kinds a b i (suc i) fits_a fits_b (omega arith) (omega arith) (omega arith) cs below
      (must (freshened kinds i a) (freshened kinds (suc i) b) (freshened_completes kinds i a fits_a, freshened_completes kinds (suc i) b fits_b))),
)

use Rattle.pk_similar.proofs.RowLemmas.{agree_weak, merged, merged_completes, weak_merged_agree}
use Rattle.pk_similar.proofs.laws.weak_rows_may_agree.Goals as goal

pub returns : goal.returns
returns c = λ kinds a b cs fits_a fits_b below. (
  (λ similar. (
    merged kinds a b,
    merged kinds b a,
    (merged_completes kinds a b fits_a fits_b, merged_completes kinds b a fits_b fits_a),
    weak_merged_agree kinds a b cs similar,
  )),
  (λ may. agree_weak kinds a b may.0 may.1 may.2.0 may.2.1 cs may.3),
)

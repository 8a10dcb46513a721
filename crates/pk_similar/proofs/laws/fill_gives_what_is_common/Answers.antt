use Rattle.std.proofs.Common.{sym, ◌∙◌}
use Rattle.pk_similar.proofs.RowLemmas.{merged, merged_completes, merged_filled, filled_turned, strong_filled, strong_same}
use Rattle.pk_similar.proofs.laws.fill_gives_what_is_common.Goals as goal

pub returns-clause-weak : goal.returns-clause-weak
returns-clause-weak c = λ kinds a b cs fits_a fits_b below similar. (
  merged kinds a b,
  merged kinds b a,
  (merged_completes kinds a b fits_a fits_b, merged_completes kinds b a fits_b fits_a),
  merged_filled kinds a b fits_a fits_b cs below,
  merged_filled kinds b a fits_b fits_a cs below ∙ sym (filled_turned kinds a b cs similar),
)

pub returns-clause-strong : goal.returns-clause-strong
returns-clause-strong c = λ kinds a b cs similar.
    (strong_filled kinds a b cs similar, sym (strong_same a b cs similar) ∙ strong_filled kinds a b cs similar)

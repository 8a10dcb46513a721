use Rattle.std.proofs.Common.{suc, arith}
use Rattle.pk_similar.proofs.TableLemmas.{table_weight, kept_apart, kept_apart_completes, no_strong_agree, apart_no_strong}
use Rattle.pk_similar.proofs.laws.possible_keys_have_no_strong_pair.Goals as goal

-- the nulls of each row are replaced by values that are heavier than the whole table, and of a weight of their own
pub returns : goal.returns
returns c = λ kinds rows cs fit below. (
  (λ possible. apart_no_strong kinds cs rows possible.0 possible.1 possible.2),
  (λ none.
      let n = suc (table_weight rows) in
      (kept_apart kinds n rows, kept_apart_completes kinds n rows fit, no_strong_agree kinds cs below rows n fit (omega arith) none)),
)

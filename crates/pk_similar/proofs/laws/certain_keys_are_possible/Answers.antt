use Rattle.pk_similar.proofs.TableLemmas.{blanked, blanked_completes}
use Rattle.pk_similar.proofs.laws.certain_keys_are_possible.Goals as goal

pub returns : goal.returns
returns c = λ kinds rows cs fit certain.
    (blanked kinds rows, blanked_completes kinds rows fit, certain (blanked kinds rows) (blanked_completes kinds rows fit))

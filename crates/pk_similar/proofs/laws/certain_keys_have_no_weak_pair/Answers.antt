use Rattle.pk_similar.proofs.TableLemmas.{no_weak_agree, certain_no_weak}
use Rattle.pk_similar.proofs.laws.certain_keys_have_no_weak_pair.Goals as goal

pub returns : goal.returns
returns c = λ kinds rows cs fit below.
    ((λ certain. certain_no_weak kinds cs rows fit certain), (λ none full done. no_weak_agree kinds cs rows full done none))

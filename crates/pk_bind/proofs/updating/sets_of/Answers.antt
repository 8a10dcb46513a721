use Rattle.pk_syntax.specs.declared.edit.SetPart.{SetPart}
use Rattle.pk_bind.specs.Literals.{has_words}
use Rattle.pk_bind.proofs.WordsLemmas.{item_has}
use Rattle.pk_bind.proofs.updating.sets_of.Goals as goal

pub set_of-requires : goal.set_of-requires
set_of-requires c =
    item_has (λ (s : SetPart). has_words s.value) c.args.sets.now c.loop-set.set-index c.set-item.result c.requires c.loop-set-test.true c.set-item.is

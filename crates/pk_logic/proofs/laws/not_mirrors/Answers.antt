use Rattle.std.proofs.Common.{sym, ◌∙◌, ap, map}
use Rattle.pk_logic.specs.declared.condition.Cond.TheVariants.{Not, All, Any}
use Rattle.pk_logic.specs.Truth.{opposite}
use Rattle.pk_logic.proofs.Layers.{truth-Not, truth-All, truth-Any}
use Rattle.pk_logic.proofs.TableLemmas.{opposite-least, opposite-greatest}
use Rattle.pk_logic.proofs.laws.not_mirrors.Goals as goal

pub returns : goal.returns
returns c = λ row members. (
  truth-Not row (All members) ∙ ap opposite (truth-All row members) ∙ opposite-least row members
      ∙ sym (truth-Any row (map (λ m. Not m) members)),
  truth-Not row (Any members) ∙ ap opposite (truth-Any row members) ∙ opposite-greatest row members
      ∙ sym (truth-All row (map (λ m. Not m) members)),
)

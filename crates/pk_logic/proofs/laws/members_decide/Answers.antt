use Rattle.std.proofs.Common.{◌∙◌, ap}
use Rattle.pk_logic.specs.Conditions.{truth}
use Rattle.pk_logic.specs.Laws.{is_true, is_false}
use Rattle.pk_logic.proofs.Layers.{truth-All, truth-Any}
use Rattle.pk_logic.proofs.TableLemmas.{true-least, false-least, true-greatest, false-greatest}
use Rattle.pk_logic.proofs.laws.members_decide.Goals as goal

pub returns : goal.returns
returns c = λ row members. (
  ap is_true (truth-All row members) ∙ true-least (truth row) members,
  ap is_false (truth-All row members) ∙ false-least (truth row) members,
  ap is_true (truth-Any row members) ∙ true-greatest (truth row) members,
  ap is_false (truth-Any row members) ∙ false-greatest (truth row) members,
)

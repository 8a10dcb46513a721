use Rattle.std.proofs.Common.{◌∙◌, ap}
use Rattle.pk_logic.specs.Truth.{opposite}
use Rattle.pk_logic.proofs.Layers.{truth-Not}
use Rattle.pk_logic.proofs.laws.not_exchanges.Goals as goal

pub returns : goal.returns
returns c = λ row cond. (
  λ holds. truth-Not row cond ∙ ap opposite holds,
  λ unknown. truth-Not row cond ∙ ap opposite unknown,
  λ fails. truth-Not row cond ∙ ap opposite fails,
)

use Rattle.pk_values.specs.Values.{value_cmp}
use Rattle.pk_logic.proofs.Layers.{truth-Compare, truth-IsNull, truth-Not, truth-All, truth-Any}
use Rattle.pk_logic.proofs.laws.examples_are_judged.Goals as goal

pub returns : goal.returns
unfolding value_cmp
returns c = simp (truth-Compare, truth-IsNull, truth-Not, truth-All, truth-Any)

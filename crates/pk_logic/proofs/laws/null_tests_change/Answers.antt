use Rattle.std.proofs.Common.{true, false, pos, [], ◌∷◌}
use Rattle.pk_values.specs.declared.value.Value.TheVariants.{Null, Integer}
use Rattle.pk_logic.proofs.Layers.{truth-IsNull}
use Rattle.pk_logic.proofs.laws.null_tests_change.Goals as goal

pub returns : goal.returns
returns c = (
  (λ known. cc, tt),
  truth-IsNull (Null ∷ []) 0 false,
  truth-IsNull (Integer (pos 1) ∷ []) 0 false,
  truth-IsNull (Null ∷ []) 0 true,
  truth-IsNull (Integer (pos 1) ∷ []) 0 true,
)

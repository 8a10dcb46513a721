use Rattle.std.proofs.Common.{sym, ◌∙◌, ap, true, false}
use Rattle.pk_values.specs.Values.{value_at}
use Rattle.pk_logic.specs.Truth.{truth_of, opposite}
use Rattle.pk_logic.proofs.Layers.{truth-IsNull}
use Rattle.pk_logic.proofs.TableLemmas.{null_test_known}
use Rattle.pk_logic.proofs.laws.null_tests_are_known.Goals as goal

pub returns : goal.returns
returns c = λ row column. (
  λ null. (truth-IsNull row column false ∙ ap truth_of null, truth-IsNull row column true ∙ ap (λ b. opposite (truth_of b)) null),
  λ known. (truth-IsNull row column false ∙ ap truth_of known, truth-IsNull row column true ∙ ap (λ b. opposite (truth_of b)) known),
  λ negated unknown. null_test_known negated (value_at row column) (sym (truth-IsNull row column negated) ∙ unknown),
)

use Rattle.std.proofs.Common.{◌∙◌, ap}
use Rattle.pk_values.specs.Values.{value_at, value_cmp}
use Rattle.pk_logic.specs.Conditions.{side_value}
use Rattle.pk_logic.proofs.TableLemmas.{table, by_each_is_table}
use Rattle.pk_logic.proofs.laws.null_is_not_compared.Goals as goal

pub returns : goal.returns
returns c = λ row column with null.
    by_each_is_table row column with ∙ ap (λ b. table b (value_cmp (value_at row column) (side_value row with))) null

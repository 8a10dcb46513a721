use Rattle.std.proofs.Common.{◌∙◌, ap, false}
use Rattle.pk_values.specs.Values.{value_at, value_cmp}
use Rattle.pk_logic.specs.Conditions.{side_value}
use Rattle.pk_logic.proofs.TableLemmas.{table, by_each_is_table}
use Rattle.pk_logic.proofs.laws.order_decides.Goals as goal

pub returns : goal.returns
returns c = λ row column with known.
    let order = value_cmp (value_at row column) (side_value row with) in
    let each = by_each_is_table row column with ∙ ap (λ b. table b order) known in
    (λ less. each ∙ ap (table false) less, λ equal. each ∙ ap (table false) equal, λ greater. each ∙ ap (table false) greater)

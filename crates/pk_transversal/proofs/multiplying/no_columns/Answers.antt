use Rattle.std.proofs.Common.{◌∙◌, ap, sym, [], ◌∷◌, ◌++◌, arith}
use Rattle.pk_values.proofs.ColumnLemmas.{set_from_columns, columns_nothing}
use Rattle.pk_transversal.proofs.multiplying.no_columns.Goals as goal

pub returns : goal.returns
returns c =
    c.in_ok-push.ensures.items ∙ ap (λ xs. xs ++ c.empty.result ∷ []) c.new-sets.ensures.items
    ∙ ap (λ x. x ∷ []) (set_from_columns c.empty.result 0 c.empty.ensures.set (omega arith) (c.empty.ensures.none ∙ sym columns_nothing))

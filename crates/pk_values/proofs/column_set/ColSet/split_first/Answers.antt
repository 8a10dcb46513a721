use Rattle.std.proofs.Common.{sym, ◌∙◌, ap, ◌∷◌}
use Rattle.pk_values.proofs.ColumnLemmas.{columns_rest}
use Rattle.pk_values.proofs.column_set.ColSet.split_first.Goals as goal

pub returns-clause-parts : goal.returns-clause-parts
returns-clause-parts c =
    let least = c.in_ok-c.ensures.least in
    least.1 ∙ ap (λ others. c.in_ok-c.c ∷ others)
    (sym (columns_rest c.args.self c.without.result c.in_ok-c.c least.0 least.1 c.without.ensures.members))

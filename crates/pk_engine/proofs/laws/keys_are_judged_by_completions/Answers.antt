use Rattle.pk_engine.proofs.JudgeLemmas.{keys_are_judged}
use Rattle.pk_engine.proofs.laws.keys_are_judged_by_completions.Goals as goal

pub returns : goal.returns
returns c =
    keys_are_judged c.keys_hold_where_nothing_breaks.ensures c.breaks_show_two_rows.ensures c.statements_make_entries.ensures

use Rattle.pk_guard.proofs.JudgeLemmas.{pair_told}
use Rattle.pk_guard.proofs.judging.key_break.Goals as goal

pub break_of-requires-clause-low_wide : goal.break_of-requires-clause-low_wide
break_of-requires-clause-low_wide c =
    (pair_told c.args.key.now c.args.gone.now c.args.put.now c.args.rows.now c.in-Some.low.now c.in-Some.high.now c.requires.put_wide c.requires.rows_wide c.in-Some.ensures).low_wide

pub break_of-requires-clause-high_wide : goal.break_of-requires-clause-high_wide
break_of-requires-clause-high_wide c =
    (pair_told c.args.key.now c.args.gone.now c.args.put.now c.args.rows.now c.in-Some.low.now c.in-Some.high.now c.requires.put_wide c.requires.rows_wide c.in-Some.ensures).high_wide

pub break_of-requires-clause-broken : goal.break_of-requires-clause-broken
break_of-requires-clause-broken c =
    (pair_told c.args.key.now c.args.gone.now c.args.put.now c.args.rows.now c.in-Some.low.now c.in-Some.high.now c.requires.put_wide c.requires.rows_wide c.in-Some.ensures).broken

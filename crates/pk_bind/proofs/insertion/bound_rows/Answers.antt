use Rattle.std.proofs.Common.{sym, ◌∙◌}
use Rattle.pk_bind.specs.Insert.{targets, targets_refusals, tuples_refusals, made_rows, insert_refusals, new_rows}
use Rattle.pk_bind.proofs.BoundLemmas.{bound_if}
use Rattle.pk_bind.proofs.insertion.bound_rows.Goals as goal

pub returns-in-None : goal.returns-in-None
unfolding insert_refusals new_rows
returns-in-None c =
    let columns = c.args.schema.now.columns in
    let insert = c.args.insert.now in
    let listed = targets columns insert.columns in
    bound_if (targets_refusals columns insert) (tuples_refusals columns listed insert.rows) (made_rows columns listed insert.rows) c.from_targets.result
    (sym c.in_ok-refusal.ensures ∙ c.in-None.is) c.from_targets.ensures

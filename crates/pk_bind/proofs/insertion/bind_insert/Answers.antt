use Rattle.std.proofs.Common.{All}
use Rattle.pk_schema.specs.Admits.{Admits}
use Rattle.pk_bind.specs.Insert.{insert_refusals, new_rows}
use Rattle.pk_bind.proofs.BoundLemmas.{ready_if}
use Rattle.pk_bind.proofs.InsertLemmas.{new_rows_admitted}
use Rattle.pk_bind.proofs.insertion.bind_insert.Goals as goal

pub returns-clause-admitted : goal.returns-clause-admitted
returns-clause-admitted c =
    let s = c.args.schema.now in
    let insert = c.args.insert.now in
    ready_if (insert_refusals s insert) (new_rows s.columns insert) c.bound_rows.result (All (Admits s))
    (new_rows_admitted s insert c.columns-few.ensures.shape c.requires) c.bound_rows.ensures

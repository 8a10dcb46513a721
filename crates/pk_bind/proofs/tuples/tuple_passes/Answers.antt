use Rattle.std.proofs.Common.{sym, ◌∙◌, ap, drop, is_none}
use Rattle.std.proofs.lemmas.List.{drop_all}
use Rattle.pk_bind.specs.Insert.{tuple_fault}
use Rattle.pk_bind.proofs.TupleLemmas.{tuple_fault_none}
use Rattle.pk_bind.proofs.tuples.tuple_passes.Goals as goal

pub returns : goal.returns
returns c =
    let fault = c.args.check in
    let columns = drop c.loop-i.i c.args.listed.now in
    ap is_none
    (sym (tuple_fault_none fault columns)
    ∙ ap (tuple_fault fault columns) (sym (drop_all c.loop-i.i c.args.row.now c.loop-i-test.false))
    ∙ c.loop-i.invariant)

use Rattle.pk_examples.proofs.CaseLemmas.{left_outside, case_made}
use Rattle.pk_examples.proofs.listing.case.Goals as goal

pub returns : goal.returns
returns c =
    case_made c.args.schema.now c.args.sort c.args.set c.minus-columns.result c.in_ok-rows.rows.low c.in_ok-rows.rows.high
    (left_outside c.args.schema.now c.args.set c.all.result c.minus-columns.result c.requires.plain c.requires.columns c.all.ensures.columns c.minus-columns.ensures.members)
    c.in_ok-rows.ensures.low c.in_ok-rows.ensures.high

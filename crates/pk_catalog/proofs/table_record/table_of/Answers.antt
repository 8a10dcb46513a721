use Rattle.std.proofs.Common.{◌≡◌, false}
use Rattle.pk_catalog.specs.Making.{is_head}
use Rattle.pk_catalog.proofs.TableMaking.{head_wrong}
use Rattle.pk_catalog.proofs.table_record.table_of.Goals as goal

pub returns-else-has_head : goal.returns-else-has_head
returns-else-has_head c = λ t is.
    let judged = c.has_head.ensures.head in
    let fails = c.if-has_head.false in
    let wrong : is_head c.args.parts.next c.args.parts.name ≡ false = cc in
    head_wrong c.args.parts wrong t is

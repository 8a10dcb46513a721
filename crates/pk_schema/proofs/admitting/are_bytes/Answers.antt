use Rattle.pk_schema.proofs.RowLemmas.{all_bytes}
use Rattle.pk_schema.proofs.admitting.are_bytes.Goals as goal

pub returns : goal.returns
returns c = all_bytes c.args.bytes.now (λ k. (c.type_inv.bytes k).fits)

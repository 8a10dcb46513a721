use Rattle.pk_index.proofs.PackingLemmas.{all_bytes}
use Rattle.pk_index.proofs.family.width_of.Goals as goal

pub returns-then-len-lt16-clause-bytes : goal.returns-then-len-lt16-clause-bytes
returns-then-len-lt16-clause-bytes c = all_bytes c.args.bytes.now (λ k. (c.type_inv.bytes k).fits)

pub returns-then-len-lt24-clause-bytes : goal.returns-then-len-lt24-clause-bytes
returns-then-len-lt24-clause-bytes c = all_bytes c.args.bytes.now (λ k. (c.type_inv.bytes k).fits)

pub returns-then-len-lt48-clause-bytes : goal.returns-then-len-lt48-clause-bytes
returns-then-len-lt48-clause-bytes c = all_bytes c.args.bytes.now (λ k. (c.type_inv.bytes k).fits)

pub returns-else-len-lt48-clause-bytes : goal.returns-else-len-lt48-clause-bytes
returns-else-len-lt48-clause-bytes c = all_bytes c.args.bytes.now (λ k. (c.type_inv.bytes k).fits)

use Rattle.std.proofs.Common.{subst, Some}
use Rattle.pk_index.specs.declared.sets.Sets.{Sets}
use Rattle.pk_index.proofs.SetLemmas.{ChangesAt, updates, begun}
use Rattle.pk_index.proofs.sets.Sets.begin.Goals as goal

pub returns : goal.returns
returns c =
    let old = c.args.self.now in
    let new : Sets = record { alloc = old.alloc; sets = c.insert.new.self } in
    begun old new c.args.bytes.now c.in_ok-ids.ids c.args.id c.requires c.in_ok-ids.ensures
    (subst (λ key. ChangesAt old new key (Some c.in_ok-ids.ids)) c.in_ok-key.ensures.items
    (updates old new c.in_ok-key.key.items (Some c.in_ok-ids.ids) c.in_ok-insert.ensures.updates))

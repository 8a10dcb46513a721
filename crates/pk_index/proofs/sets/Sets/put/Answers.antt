use Rattle.std.proofs.Common.{rules, sym, Some}
use Rattle.pk_index.specs.declared.sets.Sets.{Sets}
use Rattle.pk_index.proofs.SetLemmas.{updates, grown}
use Rattle.pk_index.proofs.sets.Sets.put.Goals as goal

pub returns-in_ok-insert-in-Some : goal.returns-in_ok-insert-in-Some
returns-in_ok-insert-in-Some c =
    let old = c.args.self.now in
    let key = c.args.bytes.now in
    let more = c.insert.new.self in
    let new : Sets = record { alloc = old.alloc; sets = c.get_mut.follows.lender more } in
    grown old new key c.in-Some.ids.now more c.args.id (sym c.in-Some.ensures.value)
    c.in_ok-insert-in-Some.ensures.updates
    (updates old new key (Some more) ((c.get_mut.follows.holds more).3 (search rules)))

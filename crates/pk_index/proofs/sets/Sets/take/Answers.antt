use Rattle.std.proofs.Common.{rules, sym, Some, None}
use Rattle.pk_index.specs.declared.sets.Sets.{Sets}
use Rattle.pk_index.proofs.SetLemmas.{updates, shrunk, emptied}
use Rattle.pk_index.proofs.sets.Sets.take.Goals as goal

pub returns-then-is_empty : goal.returns-then-is_empty
returns-then-is_empty c =
    let old = c.args.self.now in
    let key = c.args.bytes.now in
    let less = c.remove.new.self in
    let mid : Sets = record { alloc = old.alloc; sets = c.get_mut.follows.lender less } in
    let new : Sets = record { alloc = old.alloc; sets = c.remove-then-is_empty.new.self } in
    emptied old mid new key c.in-Some.ids.now less c.args.id (sym c.in-Some.ensures.value) c.remove.ensures.updates (c.is_empty.ensures.0 c.if-is_empty.true)
    (updates old mid key (Some less) ((c.get_mut.follows.holds less).3 (search rules)))
    (updates mid new key None c.remove-then-is_empty.ensures.updates)

pub returns-else-is_empty : goal.returns-else-is_empty
returns-else-is_empty c =
    let old = c.args.self.now in
    let key = c.args.bytes.now in
    let less = c.remove.new.self in
    let new : Sets = record { alloc = old.alloc; sets = c.get_mut.follows.lender less } in
    shrunk old new key c.in-Some.ids.now less c.args.id (sym c.in-Some.ensures.value) c.remove.ensures.updates
    (updates old new key (Some less) ((c.get_mut.follows.holds less).3 (search rules)))

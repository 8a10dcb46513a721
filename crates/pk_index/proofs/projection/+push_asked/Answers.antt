use Rattle.std.proofs.Common.{arith, ap, ◌∙◌, ◌++◌}
use Rattle.pk_index.specs.Filing.{asked_record}
use Rattle.pk_values.proofs.WalkLemmas.{below_rest, walk_on, walk_shorter}
use Rattle.pk_index.proofs.RowLemmas.{asked_split, storable_split, written, room_left}
use Rattle.pk_index.proofs.projection.+push_asked.Goals as goal

pub push_asked-requires : goal.push_asked-requires
push_asked-requires t c =
    let split = walk_on _ _ _ c.in-Some.ensures.least c.without.ensures.members in
    let shorter = walk_shorter _ _ _ split in (
      omega (arith, shorter, c.decreases),
      (
        below_rest _ _ _ _ c.requires.wide split,
        (
          c.push_asked_value.ensures.capacity ∙ c.requires.inline,
          room_left _ _ _ _ _ _ c.requires.room split c.push_asked_value.ensures.items c.push_asked_value.ensures.most,
        ),
      ),
    )

pub returns-clause-items : goal.returns-clause-items
returns-clause-items t c =
    let split = walk_on _ _ _ c.in-Some.ensures.least c.without.ensures.members in
    written _ _ _ _ _ _ (c.push_asked_value.ensures.items ∙ ap (λ b. c.args.bytes.now.items ++ asked_record b c.value.result.now) c.has.ensures)
    c.push_asked.ensures.items (asked_split _ _ _ _ _ split c.value.ensures c.args.pattern)

pub returns-clause-storable : goal.returns-clause-storable
returns-clause-storable t c =
    let split = walk_on _ _ _ c.in-Some.ensures.least c.without.ensures.members in
    storable_split _ _ _ _ _ split c.value.ensures c.push_asked_value.ensures.storable c.push_asked.ensures.storable

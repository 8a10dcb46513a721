use Rattle.std.proofs.Common.{arith, ap, ◌∙◌, sym, ◌&&◌}
use Rattle.std.specs.Prelude.{not}
use Rattle.pk_values.specs.Values.{is_null}
use Rattle.pk_values.proofs.WalkLemmas.{below_rest, walk_on, walk_shorter}
use Rattle.pk_index.proofs.RowLemmas.{record_split, storable_split, known_split, written, room_left}
use Rattle.pk_index.proofs.projection.+push_row.Goals as goal

pub push_row-others-requires : goal.push_row-others-requires
push_row-others-requires t c =
    let split = walk_on _ _ _ c.in-Some.ensures.least c.without.ensures.members in
    let shorter = walk_shorter _ _ _ split in (
      omega (arith, shorter, c.decreases),
      (
        below_rest _ _ _ _ c.requires.wide split,
        (c.push_value.ensures.capacity ∙ c.requires.inline, room_left _ _ _ _ _ _ c.requires.room split c.push_value.ensures.items c.push_value.ensures.most),
      ),
    )

pub returns-clause-items : goal.returns-clause-items
returns-clause-items t c =
    let split = walk_on _ _ _ c.in-Some.ensures.least c.without.ensures.members in
    written _ _ _ _ _ _ c.push_value.ensures.items c.push_row-others.ensures.items (record_split _ _ _ _ _ split c.value-value.ensures)

pub returns-clause-storable : goal.returns-clause-storable
returns-clause-storable t c =
    let split = walk_on _ _ _ c.in-Some.ensures.least c.without.ensures.members in
    storable_split _ _ _ _ _ split c.value-value.ensures c.push_value.ensures.storable c.push_row-others.ensures.storable

pub returns-clause-known : goal.returns-clause-known
returns-clause-known t c =
    let split = walk_on _ _ _ c.in-Some.ensures.least c.without.ensures.members in
    ap (λ b. b && c.push_row-others.result) c.is_known.ensures
    ∙ ap (λ b. not (is_null c.value-value.result.now) && b) c.push_row-others.ensures.known
    ∙ sym (known_split _ _ _ _ _ split c.value-value.ensures)

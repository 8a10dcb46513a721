use Rattle.std.proofs.Common.{◌≡◌, arith, ap, sym, ◌∙◌, ◌++◌, take}
use Rattle.std.specs.Str.{bytes_eq}
use Rattle.pk_values.specs.ColumnSet.{columns}
use Rattle.pk_values.specs.Records.{value_record}
use Rattle.pk_index.specs.Rows.{values_on}
use Rattle.pk_index.specs.Filing.{Puts, is_filed_behind, open_record}
use Rattle.pk_values.proofs.WalkLemmas.{below_rest, walk_on, walk_shorter}
use Rattle.pk_index.proofs.RowLemmas.{storable_split, room_left}
use Rattle.pk_index.proofs.EachLemmas.{at_ok, puts_same, puts_end, puts_closed, puts_open, cut_back}
use Rattle.pk_index.proofs.pattern_index.+put_each.Goals as goal

pub returns-in_default-clause-filed : goal.returns-in_default-clause-filed
returns-in_default-clause-filed t c =
    let front = c.args.bytes.now.items in
    at_ok c.put.result (Puts c.args.filed.now c.put.new.self (bytes_eq c.as_slice.result.now) c.args.id)
    (Puts c.args.filed.now c.put.new.self (is_filed_behind front c.args.nullable (columns c.args.rest) (values_on (columns c.args.rest) c.args.row.now)) c.args.id)
    (λ puts. puts_end (columns c.args.rest) front (values_on (columns c.args.rest) c.args.row.now) c.args.nullable c.args.id c.in_default.ensures.least c.args.filed.now c.put.new.self
    (puts_same c.args.id (bytes_eq front) (bytes_eq c.as_slice.result.now) c.args.filed.now c.put.new.self (λ bytes. ap (λ b. bytes_eq b bytes) (sym c.as_slice.ensures)) puts)) c.put.ensures

pub put_each-requires : goal.put_each-requires
put_each-requires t c =
    let split = walk_on _ _ _ c.in-Some.ensures.least c.without-others.ensures.members in
    let shorter = walk_shorter _ _ _ split in (
      omega (arith, shorter, c.decreases),
      (
        below_rest _ _ _ _ c.requires.wide split,
        (c.push_value.ensures.capacity ∙ c.requires.inline, room_left _ _ _ _ _ _ c.requires.room split c.push_value.ensures.items c.push_value.ensures.most),
      ),
    )

pub returns-then-not-may_open-clause-filed : goal.returns-then-not-may_open-clause-filed
returns-then-not-may_open-clause-filed t c =
    let split = walk_on _ _ _ c.in-Some.ensures.least c.without-others.ensures.members in
    puts_closed c.args.row.now (columns c.args.rest) (columns c.without-others.result) c.in-Some.c c.value-value.result.now split c.value-value.ensures c.args.bytes.now.items
    c.push_value.new.bytes.items c.args.nullable c.args.id c.push_value.ensures.items c.args.filed.now c.put_each.new.filed (sym c.may_open.ensures ∙ c.if-not-may_open.true)
    c.in_ok-put_each.ensures.filed

pub returns-then-not-may_open-clause-storable : goal.returns-then-not-may_open-clause-storable
returns-then-not-may_open-clause-storable t c =
    let split = walk_on _ _ _ c.in-Some.ensures.least c.without-others.ensures.members in
    storable_split _ _ _ _ _ split c.value-value.ensures c.push_value.ensures.storable c.in_ok-put_each.ensures.storable

pub put_each-requires-2 : goal.put_each-requires-2
put_each-requires-2 t c =
    let split = walk_on _ _ _ c.in-Some.ensures.least c.without-others.ensures.members in
    let shorter = walk_shorter _ _ _ split in
    let front = c.args.bytes.now.items in
    let cut : c.truncate.new.self.items ≡ front =
    c.truncate.ensures.items ∙ ap (λ n. take n c.put_each.new.bytes.items) c.len-len.ensures.value
    ∙ cut_back front (value_record c.value-value.result.now) c.put_each.new.bytes.items (c.in_ok-put_each.ensures.items ∙ c.push_value.ensures.items) in (
      omega (arith, shorter, c.decreases),
      (
        below_rest _ _ _ _ c.requires.wide split,
        (
          c.push_open.ensures.capacity ∙ c.truncate.ensures.capacity ∙ c.in_ok-put_each.ensures.capacity ∙ c.push_value.ensures.capacity ∙ c.requires.inline,
          room_left front c.push_open.new.bytes.items open_record _ _ _ c.requires.room split (c.push_open.ensures.items ∙ ap (λ bytes. bytes ++ open_record) cut) (omega arith),
        ),
      ),
    )

pub returns-clause-filed : goal.returns-clause-filed
returns-clause-filed t c =
    let split = walk_on _ _ _ c.in-Some.ensures.least c.without-others.ensures.members in
    let front = c.args.bytes.now.items in
    let cut : c.truncate.new.self.items ≡ front =
    c.truncate.ensures.items ∙ ap (λ n. take n c.put_each.new.bytes.items) c.len-len.ensures.value
    ∙ cut_back front (value_record c.value-value.result.now) c.put_each.new.bytes.items (c.in_ok-put_each.ensures.items ∙ c.push_value.ensures.items) in
    puts_open c.args.row.now (columns c.args.rest) (columns c.without-others.result) c.in-Some.c c.value-value.result.now split c.value-value.ensures front
    c.push_value.new.bytes.items c.args.nullable c.args.id c.push_value.ensures.items c.args.filed.now c.put_each.new.filed c.put_each-2.new.filed c.push_open.new.bytes.items
    (sym c.may_open.ensures ∙ c.if-not-may_open.false) (c.push_open.ensures.items ∙ ap (λ bytes. bytes ++ open_record) cut) c.in_ok-put_each.ensures.filed c.in_ok-put_each-2.ensures.filed

pub returns-clause-storable : goal.returns-clause-storable
returns-clause-storable t c =
    let split = walk_on _ _ _ c.in-Some.ensures.least c.without-others.ensures.members in
    storable_split _ _ _ _ _ split c.value-value.ensures c.push_value.ensures.storable c.in_ok-put_each.ensures.storable

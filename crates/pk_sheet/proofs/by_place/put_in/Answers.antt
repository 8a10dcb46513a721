use Rattle.std.proofs.Common.{◌∙◌, rules, refl}
use Rattle.std.specs.Ordering.{is_lt}
use Rattle.std.proofs.lemmas.Fn.{always_returns_same}
use Rattle.pk_rows.specs.declared.stored.Stored.{Stored}
use Rattle.pk_rows.specs.Maps.{place_cmp}
use Rattle.pk_sheet.proofs.Searching.{below_first, point_cuts}
use Rattle.pk_sheet.proofs.by_place.put_in.Goals as goal

-- the closure compares a record's place
pub returns-clause-ok : goal.returns-clause-ok
returns-clause-ok c =
    let records = c.args.records.now.items in
    let facts = rw c.deref.ensures.value at c.partition_point-index.ensures in
    let point = facts.partitioned (λ (s : Stored). is_lt (place_cmp s.place c.args.stored.place)) (always_returns_same _ _ _ (λ a r g called. search rules))
    (below_first c.args.stored.place records c.requires.ascend) in
    let cut = point_cuts c.args.stored.place records c.partition_point-index.result c.requires.absent facts.bound point in
    c.in_ok-insert.ensures.items ∙ rw (cut.0, cut.1) refl

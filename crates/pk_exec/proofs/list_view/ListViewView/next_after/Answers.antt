use Rattle.std.proofs.Common.{◌≡◌, ◌<◌, ◌≤◌, rules, length, get_or, nat_le}
use Rattle.std.proofs.lemmas.Fn.{always_returns_same}
use Rattle.pk_values.specs.declared.placed.Placed.{Placed}
use Rattle.pk_exec.proofs.ListLemmas.{parted_most, next_found, next_ends, no_row_placed}
use Rattle.pk_exec.proofs.list_view.ListViewView.next_after.Goals as goal

pub returns-in-Some-clause-next : goal.returns-in-Some-clause-next
returns-in-Some-clause-next c =
    let rows = c.args.self.now.rows.now in
    let place = c.partition_point-place.result in
    let parted = c.partition_point-place.ensures.partitioned (λ (p : Placed). nat_le p.id c.args.id) (always_returns_same _ _ _ (λ a r g called. search rules))
    (parted_most rows c.args.id c.args.self.now.ascend) in
    let within : place < length rows = search rules in
    let is : c.in-Some.placed.now ≡ get_or rows place c.in-Some.placed.now = search rules in
    next_found rows c.args.id place c.in-Some.placed.now c.args.self.now.ascend within is parted

pub returns-in-None-clause-next : goal.returns-in-None-clause-next
returns-in-None-clause-next c =
    let rows = c.args.self.now.rows.now in
    let place = c.partition_point-place.result in
    let parted = c.partition_point-place.ensures.partitioned (λ (p : Placed). nat_le p.id c.args.id) (always_returns_same _ _ _ (λ a r g called. search rules))
    (parted_most rows c.args.id c.args.self.now.ascend) in
    let past : length rows ≤ place = search rules in
    next_ends rows c.args.id place no_row_placed past parted

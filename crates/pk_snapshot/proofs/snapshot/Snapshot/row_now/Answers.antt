use Rattle.std.proofs.Common.{◌≡◌, ◌<◌, length, get_or, rules}
use Rattle.pk_snapshot.proofs.RisingLemmas.{found_row}
use Rattle.pk_snapshot.proofs.snapshot.Snapshot.row_now.Goals as goal

pub returns-then-placed-id-clause-row : goal.returns-then-placed-id-clause-row
returns-then-placed-id-clause-row c =
    let rows = c.args.self.now.rows.now in
    let place = c.args.self.now.place in
    let placed = c.in-Some.placed.now in
    let within : place < length rows = search rules in
    let is : placed ≡ get_or rows place placed = search rules in
    found_row rows place c.args.id placed c.in_ok-copy.field-0 c.args.self.now.ascend within is c.if-placed-id.true c.in_ok-copy.ensures

use Rattle.std.proofs.Common.{◌≤◌, length, nat_le, arith, rules}
use Rattle.std.proofs.lemmas.Bool.{leb-true, leb-false, le-leb}
use Rattle.std.proofs.lemmas.Fn.{always_returns_same}
use Rattle.pk_values.specs.declared.placed.Placed.{Placed}
use Rattle.pk_snapshot.proofs.RisingLemmas.{to_rising, parted, place_parts, no_row_placed}
use Rattle.pk_snapshot.proofs.places.searched.Goals as goal

pub returns : goal.returns
returns c =
    let rows = c.args.rows.now in
    let id = c.args.id in
    let place = c.partition_point.result in
    let rise = to_rising 1 rows c.requires in
    let most : place ≤ length rows = c.partition_point.ensures.bound in
    let sides = c.partition_point.ensures.partitioned (λ (p : Placed). nat_le p.id id) (always_returns_same _ _ _ (λ a r g called. search rules))
    (λ i j d le within passes. le-leb _ _ (parted 1 id rows i j d rise le within (leb-true _ _ passes))) in (
      most,
      place_parts 1 id place rows no_row_placed rise most
          (λ k h. leb-true _ _ (sides.0 k no_row_placed (omega arith) h)) (λ h. leb-false _ _ (sides.1 place no_row_placed (omega arith) h)),
    )

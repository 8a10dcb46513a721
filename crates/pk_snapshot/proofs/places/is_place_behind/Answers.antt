use Rattle.std.proofs.Common.{◌≤◌, ◌<◌, ◌-◌, length, subst, arith}
use Rattle.std.proofs.lemmas.List.{get_or_default}
use Rattle.pk_values.specs.declared.placed.Placed.{Placed}
use Rattle.pk_snapshot.proofs.RisingLemmas.{to_rising, place_by_sides, no_row_placed}
use Rattle.pk_snapshot.proofs.places.is_place_behind.Goals as goal
use Rattle.pk_snapshot.proofs.places.is_place_behind.Goals.{else-place-gt0-via-then-place-gt0+else-rows-place, else-place-gt0-via-else-place-gt0, else-place-rows-2-via-then-place-rows-2+else-rows-place-2, else-place-rows-2-via-else-place-rows-2}

pub returns : goal.returns
returns c told =
    let rows = c.args.rows.now in
    let place = c.args.place in
    let id = c.args.id in
    let most : place ≤ length rows = c.if-place-rows.false in (
      most,
      place_by_sides 1 id place rows no_row_placed (to_rising 1 rows c.requires) most
          (λ pos.
          elim c.else-place-gt0.branch [
            | else-place-gt0-via-then-place-gt0+else-rows-place w ↦
                subst (λ (p : Placed). p.id ≤ id) (get_or_default rows (place - 1) w.index-rows-place.result no_row_placed (omega (arith, pos, most))) w.if-rows-place.false
            | else-place-gt0-via-else-place-gt0 w ↦ omega (arith, pos, w.if-place-gt0.false)
          ])
          (λ within.
          elim c.else-place-rows-2.branch [
            | else-place-rows-2-via-then-place-rows-2+else-rows-place-2 w ↦
                subst (λ (p : Placed). id < p.id) (get_or_default rows place w.index-rows-place-then-place-rows-2.result no_row_placed within) w.if-rows-place-2.false
            | else-place-rows-2-via-else-place-rows-2 w ↦ omega (arith, within, w.if-place-rows-2.false)
          ]),
    )

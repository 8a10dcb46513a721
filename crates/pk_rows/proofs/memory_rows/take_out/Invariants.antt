use Rattle.std.proofs.Common.{◌≡◌, drop}
use Rattle.std.specs.FinMap.{from_entries}
use Rattle.pk_rows.specs.Maps.{without, place_cmp}
use Rattle.pk_rows.proofs.memory_rows.take_out.Given as goal

-- without the places that are left it is what it is to be without all of them
abbrev pub invariant-loop-place : goal.invariant-loop-place
invariant-loop-place l =
    without (drop l.place-index l.gone) (from_entries l.rows.entries) ≡ without l.gone (from_entries {R = place_cmp} l.fn.rows.entries)

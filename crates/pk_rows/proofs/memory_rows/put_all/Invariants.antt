use Rattle.std.proofs.Common.{◌≡◌, drop}
use Rattle.std.specs.FinMap.{from_entries}
use Rattle.pk_rows.specs.Maps.{with_all, place_cmp}
use Rattle.pk_rows.proofs.memory_rows.put_all.Given as goal

-- with what is left it is what it is to be with all
abbrev pub invariant-loop-stored : goal.invariant-loop-stored
invariant-loop-stored l =
    with_all (drop l.stored-index l.put) (from_entries l.rows.entries) ≡ with_all l.put (from_entries {R = place_cmp} l.fn.rows.entries)

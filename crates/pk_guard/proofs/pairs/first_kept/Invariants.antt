use Rattle.std.proofs.Common.{◌≡◌, drop}
use Rattle.std.specs.Prelude.{filter, find}
use Rattle.pk_guard.specs.Breaks.{breaks}
use Rattle.pk_guard.specs.Changed.{stays}
use Rattle.pk_guard.proofs.pairs.first_kept.Given as goal

-- the rows that are left decide
abbrev pub invariant-loop-row : goal.invariant-loop-row
invariant-loop-row l =
    find (breaks l.key l.low) (filter (stays l.gone) (drop l.row-index l.rows)) ≡ find (breaks l.key l.low) (filter (stays l.gone) l.rows)

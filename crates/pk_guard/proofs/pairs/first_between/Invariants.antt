use Rattle.std.proofs.Common.{◌≡◌, drop}
use Rattle.std.specs.Prelude.{filter}
use Rattle.pk_guard.specs.Changed.{stays}
use Rattle.pk_guard.specs.Splits.{first_between}
use Rattle.pk_guard.proofs.pairs.first_between.Given as goal

-- the rows that are left decide
abbrev pub invariant-loop-low : goal.invariant-loop-low
invariant-loop-low l =
    first_between l.key (filter (stays l.gone) (drop l.low-index l.rows)) l.put ≡ first_between l.key (filter (stays l.gone) l.rows) l.put

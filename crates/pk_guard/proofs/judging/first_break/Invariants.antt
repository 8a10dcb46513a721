use Rattle.std.proofs.Common.{◌≡◌, ◌+◌, drop}
use Rattle.pk_schema.specs.Shapes.{kinds_of}
use Rattle.pk_guard.specs.Changed.{standing}
use Rattle.pk_guard.specs.Breaks.{first_broken, first_break}
use Rattle.pk_guard.proofs.judging.first_break.Given as goal

-- the keys that are left decide, and the first of them stands at this place
abbrev pub invariant-loop-key : goal.invariant-loop-key
invariant-loop-key l =
    (first_broken (kinds_of l.columns) l.place (drop l.key-index l.key-items) (standing l.gone l.put l.rows) ≡ first_break l.schema (standing l.gone l.put l.rows))
    × (l.place ≡ l.key-index + 1)

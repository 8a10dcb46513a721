use Rattle.std.proofs.Common.{◌≡◌, None, length}
use Rattle.pk_guard.specs.Breaks.{first_pair}
use Rattle.pk_guard.specs.Changed.{RowsAscend, standing}
use Rattle.pk_guard.specs.Splits.{AreWide}
use Rattle.pk_guard.proofs.pairs.first_pair.Given as goal

-- the rows that are left decide, and are as all were
abbrev pub invariant-loop-next : goal.invariant-loop-next
invariant-loop-next l = record {
  decides : first_pair l.key (standing l.gone l.left l.kept) ≡ first_pair l.key (standing l.gone l.put l.rows);
  kept_wide : AreWide l.key l.kept;
  left_wide : AreWide l.key l.left;
  kept_ascend : RowsAscend l.kept;
  left_ascend : RowsAscend l.left;
  unbroken : first_pair l.key l.kept ≡ None;
}

abbrev pub decreases-loop-next : goal.decreases-loop-next
decreases-loop-next l = length l.left

use Rattle.std.proofs.Common.{◌≡◌}
use Rattle.pk_guard.specs.Changed.{RowsAscend, put_rows}
use Rattle.pk_engine.proofs.RowLemmas.{put_each}
use Rattle.pk_engine.proofs.rows.put_all.Given as goal

-- the rows that are left, put one behind the other, make the rows that all make; ids ascend
abbrev pub invariant-loop-placed : goal.invariant-loop-placed
invariant-loop-placed l = record {
  rows : put_each l.placed-iterator.rest.items l.rows.items ≡ put_rows l.fn.put l.fn.rows.items;
  ascend : RowsAscend l.rows.items;
}

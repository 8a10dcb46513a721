use Rattle.std.specs.Prelude.{List}
use Rattle.pk_values.specs.declared.placed.Placed.{Placed}
use Rattle.pk_snapshot.specs.declared.snapshot.Snapshot.{Snapshot}
use Rattle.pk_snapshot.specs.Begun.{rows_seen}

-- the rows that it stands for
abbrev pub shown : Snapshot → List Placed
shown s = rows_seen s.session.now s.book.now s.table s.rows.now

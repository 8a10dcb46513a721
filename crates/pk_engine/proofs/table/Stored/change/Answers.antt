use Rattle.std.proofs.Common.{subst, sym}
use Rattle.pk_guard.specs.Changed.{RowsAscend}
use Rattle.pk_engine.specs.Base.{Table}
use Rattle.pk_engine.proofs.RowLemmas.{left_ascend}
use Rattle.pk_engine.proofs.table.Stored.change.Goals as goal

-- ids ascend still where rows are taken out
pub put_all-requires : goal.put_all-requires
put_all-requires c =
    rw c.take_out.ensures (left_ascend _ c.self.inside.rows.items (subst (λ (t : Table). RowsAscend t.rows) (sym c.self.view_is) c.requires.ascend))

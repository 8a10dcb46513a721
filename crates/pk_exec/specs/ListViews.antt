use Rattle.std.specs.Prelude.{List}
use Rattle.pk_values.specs.declared.placed.Placed.{Placed}
use Rattle.pk_exec.specs.declared.list_view.ListView.{ListView}

-- the rows of which it is a view
abbrev pub listed : ListView → List Placed
listed view = view.rows.now

use Rattle.std.proofs.Common.{sym}
use Rattle.pk_values.proofs.ColumnLemmas.{subset_by_bits}
use Rattle.pk_values.proofs.column_set.ColSet.is_inside.Goals as goal

pub returns : goal.returns
returns c =
    rw (sym c.self.view_is, sym c.other.view_is)
    (subset_by_bits c.self.inside.bits c.other.inside.bits c.self.invariant c.other.invariant)

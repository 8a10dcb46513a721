use Rattle.std.proofs.Common.{refl}
use Rattle.pk_schema.specs.Shapes.{place_of_column, column_named}
use Rattle.pk_bind.proofs.LayerLemmas.{fault-Compare, fault-IsNull, fault-Not, fault-All, fault-Any, cond-Compare, cond-IsNull, cond-Not, cond-All}
use Rattle.pk_bind.proofs.edges.conditions_at_their_edges.Goals as goal

pub returns-clause-refusals : goal.returns-clause-refusals
unfolding place_of_column column_named
returns-clause-refusals c = simp (fault-Compare, fault-IsNull, fault-Not, fault-All, fault-Any)
    (refl, refl, refl, refl, refl, refl, refl, refl, refl, refl, refl, refl)

pub returns-clause-places : goal.returns-clause-places
unfolding place_of_column column_named
returns-clause-places c = simp (cond-Compare, cond-IsNull, cond-Not, cond-All)

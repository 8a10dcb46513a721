use Rattle.std.proofs.Common.{refl}
use Rattle.pk_schema.specs.Shapes.{place_of_column, column_named}
use Rattle.pk_bind.specs.Update.{set_twice, update_refusals}
use Rattle.pk_bind.specs.Select.{select_refusals}
use Rattle.pk_bind.proofs.LayerLemmas.{fault-Compare, fault-IsNull}
use Rattle.pk_bind.proofs.edges.edits_and_queries_at_their_edges.Goals as goal

pub returns-clause-updates : goal.returns-clause-updates
unfolding place_of_column column_named set_twice update_refusals
returns-clause-updates c = simp (fault-Compare, fault-IsNull) (refl, refl, refl, refl, refl, refl, refl, refl, refl, refl)

pub returns-clause-selects : goal.returns-clause-selects
unfolding place_of_column column_named select_refusals
returns-clause-selects c = simp (fault-Compare) (refl, refl, refl, refl, refl)

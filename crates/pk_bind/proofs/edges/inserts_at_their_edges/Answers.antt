use Rattle.std.proofs.Common.{refl}
use Rattle.pk_schema.specs.Shapes.{place_of_column, column_named}
use Rattle.pk_bind.specs.Insert.{missing_target, target_twice, made_row, insert_refusals, new_rows}
use Rattle.pk_bind.proofs.edges.inserts_at_their_edges.Goals as goal

pub returns-clause-refusals : goal.returns-clause-refusals
unfolding place_of_column column_named missing_target target_twice made_row insert_refusals
returns-clause-refusals c = (refl, refl, refl, refl, refl, refl, refl, refl, refl, refl)

pub returns-clause-rows : goal.returns-clause-rows
unfolding place_of_column column_named made_row new_rows
returns-clause-rows c = refl

pub returns-clause-longest : goal.returns-clause-longest
unfolding place_of_column column_named missing_target target_twice made_row insert_refusals
returns-clause-longest c = (refl, refl)

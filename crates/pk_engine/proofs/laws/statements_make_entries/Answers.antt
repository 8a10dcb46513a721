use Rattle.pk_engine.proofs.EditLemmas.{statements_make_entries}
use Rattle.pk_engine.proofs.laws.statements_make_entries.Goals as goal

pub returns : goal.returns
returns c =
    statements_make_entries c.new_rows_are_admitted.ensures c.what_is_bound_fits.ensures.edits c.set_rows_are_admitted.ensures c.admitted_rows_fit.ensures

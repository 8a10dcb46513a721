use Rattle.pk_engine.proofs.ShownLemmas.{selects_tell, whole_told, counts_are}
use Rattle.pk_engine.proofs.laws.selects_tell_their_rows.Goals as goal

pub returns : goal.returns
returns c = record { columns = selects_tell c.named_columns_are_found.ensures; all = whole_told c.admitted_rows_fit.ensures; count = counts_are }

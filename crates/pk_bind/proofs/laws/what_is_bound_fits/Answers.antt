use Rattle.pk_bind.proofs.FitLemmas.{edited_fits, deleted_fits, selected_fits}
use Rattle.pk_bind.proofs.laws.what_is_bound_fits.Goals as goal

pub returns-clause-edits : goal.returns-clause-edits
returns-clause-edits c = λ s u utf8 free. edited_fits s u utf8 free

pub returns-clause-conditions : goal.returns-clause-conditions
returns-clause-conditions c = λ s d utf8 free. deleted_fits s d utf8 free

pub returns-clause-selections : goal.returns-clause-selections
returns-clause-selections c = λ s q utf8 free. selected_fits s q utf8 free

use Rattle.pk_imply.proofs.LawLemmas.{none_to_spare, none_to_spare_truly}
use Rattle.pk_imply.proofs.laws.the_cover_has_none_to_spare.Goals as goal

pub returns-clause-tables : goal.returns-clause-tables
returns-clause-tables c = none_to_spare_truly

pub returns-clause-rule : goal.returns-clause-rule
returns-clause-rule c = none_to_spare

use Rattle.pk_imply.proofs.LawLemmas.{in_each_equal, in_each_equal_truly}
use Rattle.pk_imply.proofs.laws.the_cover_is_in_each_equal.Goals as goal

pub returns-clause-tables : goal.returns-clause-tables
returns-clause-tables c = in_each_equal_truly

pub returns-clause-rule : goal.returns-clause-rule
returns-clause-rule c = in_each_equal

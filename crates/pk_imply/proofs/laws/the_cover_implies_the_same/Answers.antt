use Rattle.pk_imply.proofs.LawLemmas.{implies_the_same, implies_the_same_truly}
use Rattle.pk_imply.proofs.laws.the_cover_implies_the_same.Goals as goal

pub returns-clause-tables : goal.returns-clause-tables
returns-clause-tables c = implies_the_same_truly

pub returns-clause-rule : goal.returns-clause-rule
returns-clause-rule c = implies_the_same

use Rattle.pk_logic.proofs.Filling.{stays_known}
use Rattle.pk_logic.proofs.laws.filling_keeps_the_known.Goals as goal

pub returns : goal.returns
returns c = λ row full cond filled without. stays_known row full filled cond without

use Rattle.pk_bind.proofs.PlacingLemmas.{literals_land}
use Rattle.pk_bind.proofs.laws.literals_land_in_their_columns.Goals as goal

pub returns : goal.returns
returns c = λ s i n tuple row shape free here there. literals_land s i n tuple row shape free here there

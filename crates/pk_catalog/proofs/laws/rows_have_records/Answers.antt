use Rattle.std.proofs.Common.{refl}
use Rattle.pk_catalog.proofs.laws.rows_have_records.Goals as goal

pub returns : goal.returns
returns c = λ s row storable admitted. record { spelled = refl; admitted = admitted; storable = storable }

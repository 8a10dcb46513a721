use Rattle.pk_catalog.proofs.FreeNumbers.{new_tables_have_numbers}
use Rattle.pk_catalog.proofs.laws.new_tables_have_numbers.Goals as goal

pub returns : goal.returns
returns c = new_tables_have_numbers

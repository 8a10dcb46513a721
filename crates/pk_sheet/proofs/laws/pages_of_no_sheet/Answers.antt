use Rattle.pk_sheet.proofs.PageReading.{pages_of_none}
use Rattle.pk_sheet.proofs.laws.pages_of_no_sheet.Goals as goal

pub returns : goal.returns
returns c = pages_of_none

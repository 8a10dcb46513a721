use Rattle.pk_sheet.proofs.PageReading.{one_sheet}
use Rattle.pk_sheet.proofs.laws.a_page_holds_one_sheet.Goals as goal

pub returns : goal.returns
returns c = one_sheet

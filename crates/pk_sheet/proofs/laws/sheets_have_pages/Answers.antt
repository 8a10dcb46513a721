use Rattle.pk_sheet.proofs.PageReading.{have_pages}
use Rattle.pk_sheet.proofs.laws.sheets_have_pages.Goals as goal

pub returns : goal.returns
returns c = have_pages

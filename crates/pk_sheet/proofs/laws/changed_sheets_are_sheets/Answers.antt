use Rattle.pk_sheet.proofs.Changes.{changed_sheets}
use Rattle.pk_sheet.proofs.laws.changed_sheets_are_sheets.Goals as goal

pub returns : goal.returns
returns c = changed_sheets

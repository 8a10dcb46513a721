use Rattle.pk_sheet.proofs.Maps.{sheets_are_maps}
use Rattle.pk_sheet.proofs.laws.sheets_are_maps.Goals as goal

pub returns : goal.returns
returns c = sheets_are_maps

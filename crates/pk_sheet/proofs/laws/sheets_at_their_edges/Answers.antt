use Rattle.pk_sheet.proofs.Edges.{at_their_edges}
use Rattle.pk_sheet.proofs.laws.sheets_at_their_edges.Goals as goal

pub returns : goal.returns
returns c = at_their_edges

use Rattle.pk_catalog.proofs.BaseEdges.{bases_at_their_edges}
use Rattle.pk_catalog.proofs.laws.bases_at_their_edges.Goals as goal

pub returns : goal.returns
returns c = bases_at_their_edges

use Rattle.std.proofs.Common.{refl}
use Rattle.pk_catalog.proofs.laws.records_at_their_edges.Goals as goal

pub returns : goal.returns
returns c = record { base = refl; most_commits = refl; table = refl; keyed = refl; row = refl }

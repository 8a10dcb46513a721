use Rattle.std.proofs.Common.{refl}
use Rattle.pk_snapshot.proofs.laws.definitions_at_their_edges.Goals as goal

pub returns : goal.returns
returns c = record {
  one_commit = refl;
  two_commits = refl;
  later_begin = refl;
  other_table = refl;
  all_removed = refl;
  nothing_noted = refl;
  not_open = refl;
}

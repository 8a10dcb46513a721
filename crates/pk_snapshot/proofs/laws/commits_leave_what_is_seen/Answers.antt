use Rattle.pk_snapshot.proofs.SeenLemmas.{leaves_what_is_seen}
use Rattle.pk_snapshot.proofs.laws.commits_leave_what_is_seen.Goals as goal

pub returns : goal.returns
returns c = leaves_what_is_seen c.images_are_first_changes.ensures

use Rattle.pk_snapshot.proofs.BegunLemmas.{begun_row, begun_ascend, no_lower, only, without_image, at_begin}
use Rattle.pk_snapshot.proofs.laws.rows_begun_are_by_their_ids.Goals as goal

pub returns : goal.returns
returns c = record {
  each = begun_row;
  ascend = begun_ascend;
  no_lower = no_lower;
  only = only;
  no_image = without_image;
  at_begin = at_begin;
}

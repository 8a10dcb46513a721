use Rattle.std.proofs.Common.{refl}
use Rattle.std.specs.Fmt.{digits}
use Rattle.pk_values.specs.ColumnSet.{columns}
use Rattle.pk_report.specs.Text.{text}
use Rattle.pk_report.proofs.laws.replies_are_spelled.Goals as goal

pub returns : goal.returns
unfolding digits columns text
returns c = record {
  created_text = refl;
  dropped_text = refl;
  inserted_text = refl;
  inserted_text_2 = refl;
  updated_text = refl;
  deleted_text = refl;
  selected_text = refl;
  selected_text_2 = refl;
  count_text = refl;
  begun_text = refl;
  committed_text = refl;
  committed_nothing_text = refl;
  rolled_back_text = refl;
  in_session_text = refl;
  shown_text = refl;
  implied_text = refl;
  implied_text_2 = refl;
  implied_text_3 = refl;
  not_implied_text = refl;
  cover_text = refl;
  cover_text_2 = refl;
  examples_text = refl;
  discovered_text = refl;
  discovered_text_2 = refl;
  checkpointed_text = refl;
}

use Rattle.std.proofs.Common.{refl}
use Rattle.std.specs.Fmt.{digits}
use Rattle.pk_report.specs.Text.{broken_text, text}
use Rattle.pk_report.proofs.laws.refusals_are_spelled.Goals as goal

pub returns : goal.returns
unfolding digits broken_text text
returns c = record {
  bad_character_refused = refl;
  unclosed_text_refused = refl;
  not_statement_refused = refl;
  no_table_refused = refl;
  table_exists_refused = refl;
  no_column_refused = refl;
  column_twice_refused = refl;
  value_count_refused = refl;
  value_count_refused_2 = refl;
  wrong_kind_refused = refl;
  wide_number_refused = refl;
  long_text_refused = refl;
  null_value_refused = refl;
  long_row_refused = refl;
  limit_refused = refl;
  limit_refused_2 = refl;
  limit_refused_3 = refl;
  limit_refused_4 = refl;
  limit_refused_5 = refl;
  open_refused = refl;
  no_transaction_refused = refl;
  transactions_refused = refl;
  many_changes_refused = refl;
  conflict_refused = refl;
  base_limit_refused = refl;
  base_limit_refused_2 = refl;
  base_limit_refused_3 = refl;
  certain_key_refused = refl;
  possible_key_refused = refl;
  discovery_rows_refused = refl;
  key_sets_refused = refl;
  key_sets_refused_2 = refl;
}

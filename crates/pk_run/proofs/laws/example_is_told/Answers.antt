use Rattle.std.proofs.Common.{refl}
use Rattle.std.specs.Fmt.{digits}
use Rattle.std.specs.Str.{is_utf8, chars}
use Rattle.std.specs.Str.Lossy.{utf8_valid_len}
use lib.Utf8.{encode}
use Rattle.pk_values.specs.ColumnSet.{columns, is_subset}
use Rattle.pk_values.specs.Values.{same_value, value_cmp}
use Rattle.pk_lex.specs.Lexemes.{lexeme_at, more_at, lexemes}
use Rattle.pk_lex.specs.Pieces.{pieces}
use Rattle.pk_lex.specs.Symbols.{symbol_at}
use Rattle.pk_parse.specs.Conditions.{op_at, operand_at, comparison_at, null_test_at, column_test_at, joined_at, unit_at, condition_at}
use Rattle.pk_parse.specs.Create.{declared, keyed_at, key_at, unique_at, primary_at, plain_key_at, key_part_at, varchar_at, form_at, mark_at, column_behind, part_key_at, part_at, create_at}
use Rattle.pk_parse.specs.Edits.{tuple_at, listed_at, list_or_none_at, insert_at, set_at, update_at, delete_at}
use Rattle.pk_parse.specs.Lists.{list_at, parens_at, names_at}
use Rattle.pk_parse.specs.Literals.{number_of, null_at, negative_at, literal_at}
use Rattle.pk_parse.specs.Parsed.{parsed}
use Rattle.pk_syntax.specs.Printing.{table_text}
use Rattle.pk_parse.specs.Queries.{count_at, columns_at, what_at, direction_at, order_part_at, order_by_at, order_at, select_at}
use Rattle.pk_parse.specs.Statements.{drop_at, session_at, show_at, implies_at, cover_at, examples_at, over_names_at, over_at, discover_at, statement_at, read}
use Rattle.pk_parse.specs.Tokens.{after_word, after_symbol, name_at, digits_at}
use Rattle.pk_parse.specs.Where.{where_at}
use Rattle.pk_syntax.specs.Words.{reserved, is_reserved}
use Rattle.pk_schema.specs.Shapes.{place_of_column, column_named, set_where}
use Rattle.pk_schema.specs.Making.{no_column, declared_twice}
use Rattle.pk_bind.specs.Insert.{missing_target, target_twice, made_row, new_rows, insert_refusals}
use Rattle.pk_bind.specs.Update.{set_twice, update_refusals, edit_of}
use Rattle.pk_bind.specs.Delete.{delete_refusals}
use Rattle.pk_bind.specs.Select.{select_refusals, selection_of}
use Rattle.pk_exec.specs.Changes.{gone_ids}
use Rattle.pk_exec.specs.Selecting.{row_cmp, sorted_by, selected}
use Rattle.pk_exec.specs.Refusals.{long_update}
use Rattle.pk_guard.specs.Breaks.{first_pair, first_broken, first_break}
use Rattle.pk_guard.specs.Changed.{put_row, put_rows}
use Rattle.pk_report.specs.Text.{broken_text, text}
use Rattle.pk_engine.specs.Answer.{answer, is_answered}
use Rattle.pk_engine.specs.Base.{table_named, with_table, without_table, changed_by, change_table}
use Rattle.pk_engine.specs.Create.{table_exists}
use Rattle.pk_engine.specs.Keys.{key_broken}
use Rattle.pk_engine.specs.Refusing.{about}
use Rattle.pk_engine.specs.State.{after, current}
use Rattle.pk_run.specs.Told.{step, told, is_refused}
use Rattle.pk_run.proofs.laws.example_is_told.Goals as goal

pub returns : goal.returns
unfolding digits utf8_valid_len is_utf8 chars encode columns is_subset same_value value_cmp lexeme_at more_at lexemes pieces symbol_at op_at operand_at comparison_at null_test_at column_test_at joined_at unit_at condition_at declared keyed_at key_at unique_at primary_at plain_key_at key_part_at varchar_at form_at mark_at column_behind part_key_at part_at create_at tuple_at listed_at list_or_none_at insert_at set_at update_at delete_at list_at parens_at names_at number_of null_at negative_at literal_at parsed table_text count_at columns_at what_at direction_at order_part_at order_by_at order_at select_at drop_at session_at show_at implies_at cover_at examples_at over_names_at over_at discover_at statement_at read after_word after_symbol name_at digits_at where_at reserved is_reserved broken_text text answer is_answered about table_named with_table without_table put_row put_rows changed_by change_table table_exists key_broken first_break first_broken first_pair place_of_column column_named set_where no_column declared_twice missing_target target_twice made_row new_rows insert_refusals set_twice update_refusals edit_of delete_refusals select_refusals selection_of gone_ids row_cmp sorted_by selected long_update after current step told is_refused
returns c = refl

use Rattle.std.proofs.Common.{refl}
use Rattle.pk_syntax.specs.Words.{is_reserved, reserved}
use Rattle.pk_parse.specs.Tokens.{after_word, after_symbol, name_at, digits_at}
use Rattle.pk_parse.specs.Literals.{number_of, null_at, negative_at, literal_at}
use Rattle.pk_parse.specs.Conditions.{op_at, operand_at, comparison_at, null_test_at, column_test_at, joined_at, unit_at, condition_at}
use Rattle.pk_parse.proofs.conditions.conditions_at_their_edges.Goals as goal

pub returns : goal.returns
unfolding is_reserved reserved after_word after_symbol name_at digits_at number_of null_at negative_at literal_at op_at operand_at comparison_at null_test_at column_test_at joined_at unit_at condition_at
returns c = record { nothing = refl; column_alone = refl; compared = refl; two_columns = refl; not_null = refl; or_then_and = refl; and_then_or = refl; in_parens = refl; denied_first = refl; followed = refl; on_no_level = refl; on_one_level = refl; denied_on_one = refl; denied_on_two = refl }

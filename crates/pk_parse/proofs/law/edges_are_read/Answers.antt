use Rattle.std.proofs.Common.{refl}
use Rattle.pk_syntax.specs.Words.{is_reserved, reserved}
use Rattle.pk_parse.specs.Tokens.{after_word, after_symbol, name_at, digits_at}
use Rattle.pk_parse.specs.Literals.{number_of, negative_at, null_at, literal_at}
use Rattle.pk_parse.specs.Lists.{names_at}
use Rattle.pk_parse.specs.Create.{varchar_at, form_at, declared}
use Rattle.pk_parse.specs.Statements.{drop_at, statement_at, read}
use Rattle.pk_parse.proofs.law.edges_are_read.Goals as goal

pub returns : goal.returns
unfolding is_reserved reserved after_word after_symbol name_at digits_at number_of negative_at null_at literal_at names_at varchar_at form_at declared drop_at statement_at read
returns c = record {
  nothing = refl;
  begin = refl;
  begin_twice = refl;
  reserved_name = refl;
  free_name = refl;
  greatest = refl;
  too_great = refl;
  least = refl;
  too_small = refl;
  minus_zero = refl;
  no_name = refl;
  no_byte = refl;
  zeros_before = refl;
  longest = refl;
  too_long = refl;
  no_column = refl;
  keys_in_order = refl;
}

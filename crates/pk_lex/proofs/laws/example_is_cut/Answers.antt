use Rattle.std.proofs.Common.{refl}
use Rattle.std.specs.Str.{is_utf8, chars}
use Rattle.std.specs.Str.Lossy.{utf8_valid_len}
use lib.Utf8.{encode}
use Rattle.pk_lex.specs.Symbols.{symbol_at}
use Rattle.pk_lex.specs.Lexemes.{lexeme_at, more_at, lexemes}
use Rattle.pk_lex.specs.Pieces.{pieces}
use Rattle.pk_lex.proofs.laws.example_is_cut.Goals as goal

pub returns : goal.returns
unfolding utf8_valid_len is_utf8 chars encode symbol_at lexeme_at more_at lexemes pieces
returns c = (refl, refl)

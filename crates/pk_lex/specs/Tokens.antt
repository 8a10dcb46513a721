use Rattle.std.specs.Prelude.{Bool, true, false, not, ◌&&◌, List, [], ◌∷◌, ℕ}
use Rattle.std.specs.List.{list_all}
use Rattle.std.specs.Char.{is_ascii_digit}
use Rattle.std.specs.Str.{is_utf8}
use Rattle.pk_values.specs.Name.{is_name}
use Rattle.pk_lex.specs.declared.token.Token.{Token}
use Rattle.pk_lex.specs.declared.token.Token.TheVariants.{Word, Number, Text, Symbol as Sign}
use Rattle.pk_lex.specs.declared.token.Symbol.TheVariants.{Semicolon}
use Rattle.pk_lex.specs.declared.piece.Piece.{Piece}
use Rattle.pk_lex.specs.declared.piece.Body.{Body}
use Rattle.pk_lex.specs.declared.piece.Body.TheVariants.{Tokens, BadCharacter, UnclosedText}

-- What `lex` promises of each token and of each piece, whatever the script.

-- at least one byte, each a digit
abbrev pub is_number : List ℕ → Bool
is_number [] = false
is_number (b ∷ bs) = list_all is_ascii_digit (b ∷ bs)

-- whether a script can hold it: a word is a name, a number is digits, a text is UTF-8
abbrev pub is_token : Token → Bool
is_token (Word name) = is_name name
is_token (Number digits) = is_number digits
is_token (Text bytes) = is_utf8 bytes
is_token (Sign symbol) = true

-- whether the token is a `;`
abbrev pub ends_piece : Token → Bool
ends_piece (Sign Semicolon) = true
ends_piece _ = false

-- a token that isn't a `;`
abbrev pub stands_inside : Token → Bool
stands_inside t = is_token t && not (ends_piece t)

-- whether a piece may hold it: a fault, or tokens inside a piece, at least one
abbrev pub is_body : Body → Bool
is_body (Tokens []) = false
is_body (Tokens (t ∷ ts)) = list_all stands_inside (t ∷ ts)
is_body (BadCharacter line) = true
is_body (UnclosedText line) = true

-- whether it may be a piece of a script
abbrev pub is_lexed : Piece → Bool
is_lexed piece = is_body piece.body

use Rattle.std.specs.Prelude.{◌≡◌, ℕ, IsTrue, Option, Some, None, Result, Ok, Err}
use Rattle.pk_lex.specs.declared.piece.Piece.{Piece}
use Rattle.pk_lex.specs.declared.piece.Body.{Body}
use Rattle.pk_lex.specs.declared.piece.Body.TheVariants as bodies
use Rattle.pk_lex.specs.Tokens.{is_lexed}
use Rattle.pk_syntax.specs.declared.statement.Statement.{Statement}
use Rattle.pk_syntax.specs.Given.{IsGiven}
use Rattle.pk_parse.specs.declared.parsing.ParseErr.{ParseErr}
use Rattle.pk_parse.specs.declared.parsing.ParseErr.TheVariants.{BadCharacter, UnclosedText, NotStatement, Memory}
use Rattle.pk_parse.specs.Statements.{read}

-- the statement, or that there is none, with the piece's line
abbrev pub statement_or : ℕ → Option Statement → Result Statement ParseErr
statement_or line (Some s) = Ok s
statement_or line None = Err (NotStatement line)

abbrev pub parsed_body : ℕ → Body → Result Statement ParseErr
parsed_body line (bodies.Tokens tokens) = statement_or line (read tokens)
parsed_body line (bodies.BadCharacter fault) = Err (BadCharacter fault)
parsed_body line (bodies.UnclosedText fault) = Err (UnclosedText fault)

-- what a piece says: its statement, or why it is none
unfoldable pub parsed : Piece → Result Statement ParseErr
parsed piece = parsed_body piece.line piece.body

-- the statement of a piece that a script may have is given
abbrev pub WhatIsParsedIsGiven : Type 0
WhatIsParsedIsGiven = (piece : Piece) (s : Statement) → IsTrue (is_lexed piece) → parsed piece ≡ Ok s → IsGiven s

-- the answer of parsing is that, unless memory ran out
abbrev pub Parses : Result Statement ParseErr → Result Statement ParseErr → Type 0
Parses (Ok s) piece = piece ≡ Ok s
Parses (Err (BadCharacter line)) piece = piece ≡ Err (BadCharacter line)
Parses (Err (UnclosedText line)) piece = piece ≡ Err (UnclosedText line)
Parses (Err (NotStatement line)) piece = piece ≡ Err (NotStatement line)
Parses (Err Memory) piece = Unit {0}

-- What holds of each statement that is read.
use Rattle.std.proofs.Common.{◌≡◌, ℕ, true, List, Option, Some, None, Ok, Err, Result, sym, ap, ◌∙◌, refl}
use Rattle.std.specs.Prelude.{IsTrue}
use Rattle.pk_lex.specs.declared.token.Token.{Token}
use Rattle.pk_lex.specs.declared.piece.Piece.{Piece}
use Rattle.pk_lex.specs.declared.piece.Body.{Body}
use Rattle.pk_lex.specs.declared.piece.Body.TheVariants.{Tokens, BadCharacter, UnclosedText}
use Rattle.pk_lex.specs.Tokens.{is_body, is_lexed}
use Rattle.pk_syntax.specs.declared.statement.Statement.{Statement}
use Rattle.pk_syntax.specs.Given.{IsGiven}
use Rattle.pk_parse.specs.declared.parsing.ParseErr.{ParseErr}
use Rattle.pk_parse.specs.Statements.{read}
use Rattle.pk_parse.specs.Parsed.{statement_or, parsed_body, parsed, WhatIsParsedIsGiven}
use Rattle.pk_parse.proofs.StatementReading.{reads_the_grammar}
use Rattle.pk_parse.proofs.TokensGiven.{AreTokens, piece_tokens}
use Rattle.pk_parse.proofs.TextsGiven.{texts_given}
use Rattle.pk_parse.proofs.DeclarationGiven.{declaration_given}
use Rattle.pk_parse.proofs.NumbersGiven.{numbers_given}

read_is_given : (tokens : List Token) (s : Statement) → read tokens ≡ Some s → AreTokens tokens → IsGiven s
read_is_given tokens s e are =
    let is = reads_the_grammar.found tokens s e in
    let declares = declaration_given tokens s is are in
    record { plain = declares.0; texts = texts_given tokens s is are; names = declares.1; numbers = numbers_given tokens s is }

pub read_of_piece : (piece : Piece) (tokens slice : List Token) (s : Statement) → piece.body ≡ Tokens tokens → slice ≡ tokens → read slice ≡ Some s → is_lexed piece ≡ true → IsGiven s
read_of_piece piece tokens slice s body same e lexed =
    let are : is_body (Tokens tokens) ≡ true = ap is_body (sym body) ∙ lexed in
    read_is_given tokens s (ap read (sym same) ∙ e) (piece_tokens tokens are)

statement_there : (line : ℕ) (o : Option Statement) (s : Statement) → statement_or line o ≡ Ok s → o ≡ Some s
statement_there line (Some t) s e = cc
statement_there line None s e = absurd cc

body_is_given : (line : ℕ) (body : Body) (s : Statement) → is_body body ≡ true → parsed_body line body ≡ Ok s → IsGiven s
body_is_given line (Tokens tokens) s lexed e = read_is_given tokens s (statement_there line (read tokens) s e) (piece_tokens tokens lexed)
body_is_given line (BadCharacter fault) s lexed e = absurd cc
body_is_given line (UnclosedText fault) s lexed e = absurd cc

pub parsed_is_given : WhatIsParsedIsGiven
unfolding parsed
parsed_is_given piece s lexed e = body_is_given piece.line piece.body s lexed e

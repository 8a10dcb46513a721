use Rattle.std.specs.Prelude.{ℕ, List, [], ◌∷◌, ◌++◌, Option}
use Rattle.std.specs.List.{filter_map, cons_option}
use Rattle.std.specs.Option.{option_or}
use Rattle.pk_lex.specs.declared.token.Token.{Token}
use Rattle.pk_lex.specs.declared.lexeme.Lexeme.{Lexeme}
use Rattle.pk_lex.specs.declared.lexeme.Fault.{Fault}
use Rattle.pk_lex.specs.declared.piece.Piece.{Piece}
use Rattle.pk_lex.specs.declared.draft.Draft.{Draft}
use Rattle.pk_lex.specs.declared.builder.PieceBuilder.{PieceBuilder}
use Rattle.pk_lex.specs.Pieces.{first_line, first_fault, tokens_of, piece_with, piece_of, parts_of}

-- What the builder makes, for the clauses of its own functions. No public clause cites this.

-- The pieces of parts, of which the first goes on from a part that begins on a line, if it has begun,
-- with its first fault and its tokens.
abbrev pub pieces_on : Option ℕ → Option (ℕ × Fault) → List Token → List (List (ℕ × Lexeme)) → List Piece
pieces_on begins fault tokens [] = cons_option (piece_with begins fault tokens) []
pieces_on begins fault tokens (part ∷ parts) =
    cons_option
    (piece_with (option_or begins (first_line part)) (option_or fault (first_fault part)) (tokens ++ tokens_of part))
    (filter_map piece_of parts)

-- the piece that a draft is of
abbrev pub piece_drafted : Draft → Option Piece
piece_drafted draft = piece_with draft.begins draft.fault draft.tokens.items

-- all pieces, where the builder has yet to take these lexemes
abbrev pub pieces_with : PieceBuilder → List (ℕ × Lexeme) → List Piece
pieces_with builder rest =
    builder.pieces.items ++ pieces_on builder.draft.begins builder.draft.fault builder.draft.tokens.items (parts_of rest)

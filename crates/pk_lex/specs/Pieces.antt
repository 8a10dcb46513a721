use Rattle.std.specs.Prelude.{ℕ, Bool, true, false, List, [], ◌∷◌, filter, Option, Some, None}
use Rattle.std.specs.List.{filter_map, slice_split}
use Rattle.pk_lex.specs.declared.token.Token.{Token}
use Rattle.pk_lex.specs.declared.lexeme.Lexeme.{Lexeme}
use Rattle.pk_lex.specs.declared.lexeme.Lexeme.TheVariants.{Gap, Known, Wrong}
use Rattle.pk_lex.specs.declared.lexeme.Fault.{Fault}
use Rattle.pk_lex.specs.declared.lexeme.Fault.TheVariants.{Bad, Unclosed}
use Rattle.pk_lex.specs.declared.piece.Piece.{Piece}
use Rattle.pk_lex.specs.declared.piece.Body.{Body}
use Rattle.pk_lex.specs.declared.piece.Body.TheVariants.{Tokens, BadCharacter, UnclosedText}
use Rattle.pk_lex.specs.Lexemes.{lexemes}
use Rattle.pk_lex.specs.Tokens.{ends_piece}

-- whether it is a token or a fault
abbrev pub is_solid : ℕ × Lexeme → Bool
is_solid (line, Gap) = false
is_solid (line, Known t) = true
is_solid (line, Wrong f) = true

-- whether the lexeme is one
abbrev pub is_end : ℕ × Lexeme → Bool
is_end (line, Gap) = false
is_end (line, Known t) = ends_piece t
is_end (line, Wrong f) = false

-- what stands before the first `;`, between each two and behind the last, without the gaps
abbrev pub parts_of : List (ℕ × Lexeme) → List (List (ℕ × Lexeme))
parts_of xs = slice_split is_end (filter is_solid xs)

-- the line of the first lexeme
abbrev pub first_line : List (ℕ × Lexeme) → Option ℕ
first_line [] = None
first_line (x ∷ xs) = Some x.0

-- the first fault, with its line
abbrev pub first_fault : List (ℕ × Lexeme) → Option (ℕ × Fault)
first_fault [] = None
first_fault ((line, Gap) ∷ xs) = first_fault xs
first_fault ((line, Known t) ∷ xs) = first_fault xs
first_fault ((line, Wrong f) ∷ xs) = Some (line, f)

-- the tokens, in order
abbrev pub tokens_of : List (ℕ × Lexeme) → List Token
tokens_of [] = []
tokens_of ((line, Gap) ∷ xs) = tokens_of xs
tokens_of ((line, Known t) ∷ xs) = t ∷ tokens_of xs
tokens_of ((line, Wrong f) ∷ xs) = tokens_of xs

-- a fault, where there is one, else the tokens
abbrev pub body_of : Option (ℕ × Fault) → List Token → Body
body_of (Some (line, Bad)) tokens = BadCharacter line
body_of (Some (line, Unclosed)) tokens = UnclosedText line
body_of None tokens = Tokens tokens

-- the piece that begins on a line, with its first fault and its tokens
abbrev pub piece_with : Option ℕ → Option (ℕ × Fault) → List Token → Option Piece
piece_with None fault tokens = None
piece_with (Some line) fault tokens = Some (record { line = line; body = body_of fault tokens })

-- the piece of a part that isn't empty
abbrev pub piece_of : List (ℕ × Lexeme) → Option Piece
piece_of part = piece_with (first_line part) (first_fault part) (tokens_of part)

-- the pieces of lexemes
abbrev pub pieces_of : List (ℕ × Lexeme) → List Piece
pieces_of xs = filter_map piece_of (parts_of xs)

-- the pieces of a script
unfoldable pub pieces : List ℕ → List Piece
pieces script = pieces_of (lexemes script)

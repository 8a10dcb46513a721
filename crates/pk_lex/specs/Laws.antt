use Rattle.std.specs.Prelude.{◌≡◌, ◌≢◌, ◌⊎◌, ℕ, ◌+◌, ◌<◌, ◌==◌, Bool, true, false, not, List, [], ◌∷◌, ◌++◌, length, take, drop, slice_index, slice_index_or, filter, codes, All, IsTrue, Option, Some, None, if◌then◌else◌}
use Rattle.std.specs.List.{flat_map, concat}
use Rattle.pk_lex.specs.declared.token.Token.{Token}
use Rattle.pk_lex.specs.declared.token.Token.TheVariants.{Word, Text, Symbol as Sign}
use Rattle.pk_lex.specs.declared.token.Symbol.TheVariants.{Semicolon}
use Rattle.pk_lex.specs.declared.lexeme.Lexeme.{Lexeme}
use Rattle.pk_lex.specs.declared.lexeme.Lexeme.TheVariants.{Gap, Known, Wrong}
use Rattle.pk_lex.specs.declared.lexeme.Fault.{Fault}
use Rattle.pk_lex.specs.declared.lexeme.Fault.TheVariants.{Bad, Unclosed}
use Rattle.pk_lex.specs.declared.lexeme.Front.{Front}
use Rattle.pk_lex.specs.declared.piece.Piece.{Piece}
use Rattle.pk_lex.specs.declared.piece.Body.{Body}
use Rattle.pk_lex.specs.declared.piece.Body.TheVariants.{Tokens, BadCharacter, UnclosedText}
use Rattle.pk_lex.specs.Texts.{closed_text}
use Rattle.pk_lex.specs.Lexemes.{front_of, line_feeds, lexemes}
use Rattle.pk_lex.specs.Pieces.{first_fault, tokens_of, pieces_of, pieces}
use Rattle.pk_lex.specs.Tokens.{ends_piece, is_lexed}

-- the tokens that a body holds
abbrev pub body_tokens : Body → List Token
body_tokens (Tokens tokens) = tokens
body_tokens (BadCharacter line) = []
body_tokens (UnclosedText line) = []

-- the fault that a body tells, with its line, or else another
abbrev pub fault_or : Body → Option (ℕ × Fault) → Option (ℕ × Fault)
fault_or (Tokens tokens) other = other
fault_or (BadCharacter line) other = Some (line, Bad)
fault_or (UnclosedText line) other = Some (line, Unclosed)

-- the first fault that pieces tell, with its line
abbrev pub first_told : List Piece → Option (ℕ × Fault)
first_told [] = None
first_told (piece ∷ pieces) = fault_or piece.body (first_told pieces)

-- The pieces of a script without faults hold its tokens other than `;`, all of them and in order.
abbrev pub PiecesHoldTheTokens : Type 0
PiecesHoldTheTokens =
    (script : List ℕ) →
    first_fault (lexemes script) ≡ None →
    flat_map (λ (piece : Piece). body_tokens piece.body) (pieces script) ≡ filter (λ t. not (ends_piece t)) (tokens_of (lexemes script))

-- Every piece of a script is one that a script may have.
abbrev pub PiecesAreLexed : Type 0
PiecesAreLexed = (script : List ℕ) → All (λ piece. IsTrue (is_lexed piece)) (pieces script)

-- The first fault that the pieces of a script tell is the script's first fault.
abbrev pub PiecesTellTheFirstFault : Type 0
PiecesTellTheFirstFault = (script : List ℕ) → first_told (pieces script) ≡ first_fault (lexemes script)

-- A `;` cuts: what stands before it and what stands behind it give their pieces apart.
abbrev pub SemicolonsCut : Type 0
SemicolonsCut =
    (before behind : List (ℕ × Lexeme)) (line : ℕ) →
    pieces_of (before ++ (line, Known (Sign Semicolon)) ∷ behind) ≡ pieces_of before ++ pieces_of behind

-- The lexeme is the front of the bytes from some place on, and its line is 1 plus the number of line feeds before that place.
abbrev pub StandsIn : List ℕ → ℕ × Lexeme → Type 0
StandsIn script entry =
    (place : ℕ) × (front : Front) × (front_of (drop place script) ≡ Some front) × (entry.1 ≡ front.lexeme) × (entry.0 ≡ 1 + line_feeds (take place script))

-- Each lexeme of a script stands in it, on its line.
abbrev pub LexemesStandOnTheirLines : Type 0
LexemesStandOnTheirLines = (script : List ℕ) → All (StandsIn script) (lexemes script)

-- A lexeme that takes this part of a script, with what stands before the part and behind it: it is the
-- front of what isn't passed yet, and its line is 1 plus the number of line feeds before the part.
abbrev pub Takes : List ℕ → List ℕ → List ℕ → ℕ × Lexeme → Type 0
Takes before part behind entry =
    (0 < length part) × (front_of (part ++ behind) ≡ Some (record { lexeme = entry.1; width = length part })) × (entry.0 ≡ 1 + line_feeds before)

-- A script is the bytes of its lexemes, joined: its parts, none of them empty, are taken by its lexemes
-- one by one.
abbrev pub LexemesFillTheScript : Type 0
LexemesFillTheScript =
    (script : List ℕ) →
    (parts : List (List ℕ)) × (concat parts ≡ script) × (length parts ≡ length (lexemes script)) × ((k : ℕ) → k < length parts → Takes (concat (take k parts)) (slice_index_or parts k []) (concat (drop (k + 1) parts)) (slice_index_or (lexemes script) k (0, Gap)))

-- the bytes between quotes, with each quote among them doubled
abbrev pub quoted : List ℕ → List ℕ
quoted text = 39 ∷ flat_map (λ b. if b == 39 then 39 ∷ 39 ∷ [] else b ∷ []) text ++ 39 ∷ []

-- Quoted bytes with no quote behind them are a text of these bytes, or a bad character where they aren't UTF-8.
abbrev pub QuotedBytesAreTexts : Type 0
QuotedBytesAreTexts =
    (text behind : List ℕ) →
    slice_index behind 0 ≢ 39 →
    front_of (quoted text ++ behind) ≡ Some (record { lexeme = closed_text text; width = length (quoted text) })

-- Where a quote stands, quoted bytes with no quote behind them stand, or an unclosed text, which
-- reaches to the script's end.
abbrev pub QuotesBeginTexts : Type 0
QuotesBeginTexts =
    (bytes : List ℕ) →
    slice_index bytes 0 ≡ 39 →
    ((text behind : List ℕ) × (bytes ≡ quoted text ++ behind) × (slice_index behind 0 ≢ 39)) ⊎ (front_of bytes ≡ Some (record { lexeme = Wrong Unclosed; width = length bytes }))

-- whether it is a text
abbrev pub is_text : Lexeme → Bool
is_text Gap = false
is_text (Known (Text bytes)) = true
is_text (Known _) = false
is_text (Wrong Bad) = false
is_text (Wrong Unclosed) = true

-- No text stands elsewhere.
abbrev pub TextsBeginWithQuotes : Type 0
TextsBeginWithQuotes =
    (bytes : List ℕ) (front : Front) → front_of bytes ≡ Some front → is_text front.lexeme ≡ true → slice_index bytes 0 ≡ 39

-- `a;`, a line feed and `$;` are a word on line 1 and a fault on line 2. `'it''s'`, a comment, a line feed
-- and `;'` are a text on line 1 and an unclosed one on line 2.
abbrev pub ExampleIsCut : Type 0
ExampleIsCut =
    (pieces (codes "'it''s'--;" ++ 10 ∷ codes ";'") ≡ record { line = 1; body = Tokens (Text (codes "it's") ∷ []) } ∷ record { line = 2; body = UnclosedText 2 } ∷ [])
    × (pieces (codes "a;" ++ 10 ∷ codes "$;") ≡ record { line = 1; body = Tokens (Word (codes "a") ∷ []) } ∷ record { line = 2; body = BadCharacter 2 } ∷ [])

use Rattle.std.specs.Prelude.{ℕ, ◌+◌, ◌-◌, Bool, false, not, ◌==◌, ◌||◌, List, [], ◌∷◌, length, take_while, count_by, Option, Some, None, codes, nat_eq, if◌then◌else◌}
use Rattle.std.proofs.Common.{suc, zero}
use Rattle.std.specs.List.{prefix_len, starts_with}
use Rattle.std.specs.Char.{is_ascii_alphabetic, is_ascii_alphanumeric, is_ascii_digit}
use Rattle.pk_values.specs.Name.{folded}
use Rattle.pk_lex.specs.declared.token.Token.TheVariants.{Word, Number, Symbol as Sign}
use Rattle.pk_lex.specs.declared.token.Symbol.{Symbol}
use Rattle.pk_lex.specs.declared.lexeme.Lexeme.{Lexeme}
use Rattle.pk_lex.specs.declared.lexeme.Lexeme.TheVariants.{Gap, Known, Wrong}
use Rattle.pk_lex.specs.declared.lexeme.Fault.TheVariants.{Bad}
use Rattle.pk_lex.specs.declared.lexeme.Front.{Front}
use Rattle.pk_lex.specs.Symbols.{spelling, symbol_at}
use Rattle.pk_lex.specs.Texts.{text_width, text_lexeme, text_more}

-- space, tab, line feed or carriage return
abbrev pub is_blank : ℕ → Bool
is_blank b = b == 32 || b == 9 || b == 10 || b == 13

-- whether the bytes begin with `--`
abbrev pub begins_comment : List ℕ → Bool
begins_comment bytes = starts_with nat_eq bytes (codes "--")

-- any byte but a line feed
abbrev pub stays_on_line : ℕ → Bool
stays_on_line b = not (b == 10)

-- a letter or `_`
abbrev pub begins_word : ℕ → Bool
begins_word b = is_ascii_alphabetic b || b == 95

-- a letter, a digit or `_`
abbrev pub continues_word : ℕ → Bool
continues_word b = is_ascii_alphanumeric b || b == 95

-- what a symbol or a byte that begins nothing is
abbrev pub symbol_lexeme : Option Symbol → Lexeme
symbol_lexeme (Some s) = Known (Sign s)
symbol_lexeme None = Wrong Bad

-- how many bytes it takes behind its first
abbrev pub symbol_more : Option Symbol → ℕ
symbol_more (Some s) = length (spelling s) - 1
symbol_more None = 0

-- the lexeme that begins with the byte b and goes on in the bytes behind it: the longest there is
unfoldable pub lexeme_at : ℕ → List ℕ → Lexeme
lexeme_at b behind =
    if is_blank b then Gap
    else (if begins_comment (b ∷ behind) then Gap
    else (if begins_word b then Known (Word (folded (b ∷ take_while continues_word behind)))
    else (if is_ascii_digit b then Known (Number (b ∷ take_while is_ascii_digit behind))
    else (if b == 39 then text_lexeme (text_width false behind) behind
    else symbol_lexeme (symbol_at (b ∷ behind))))))

-- how many of the bytes behind its first it takes
unfoldable pub more_at : ℕ → List ℕ → ℕ
more_at b behind =
    if is_blank b then 0
    else (if begins_comment (b ∷ behind) then prefix_len stays_on_line behind
    else (if begins_word b then prefix_len continues_word behind
    else (if is_ascii_digit b then prefix_len is_ascii_digit behind
    else (if b == 39 then text_more (text_width false behind) behind
    else symbol_more (symbol_at (b ∷ behind))))))

-- the lexeme at the front of the bytes
abbrev pub front_of : List ℕ → Option Front
front_of [] = None
front_of (b ∷ behind) = Some (record { lexeme = lexeme_at b behind; width = 1 + more_at b behind })

-- how many of the bytes are line feeds
abbrev pub line_feeds : List ℕ → ℕ
line_feeds bytes = count_by (λ b. b == 10) bytes

-- the line of the byte behind b, where b is on this line
abbrev pub line_behind : ℕ → ℕ → ℕ
line_behind line b = if b == 10 then line + 1 else line

-- The lexemes of the bytes, each with its line. The first byte is on this line, and so many of the
-- bytes belong to a lexeme that began before them.
abbrev pub lexemes_from : ℕ → ℕ → List ℕ → List (ℕ × Lexeme)
lexemes_from line inside [] = []
lexemes_from line (suc inside) (b ∷ behind) = lexemes_from (line_behind line b) inside behind
lexemes_from line zero (b ∷ behind) = (line, lexeme_at b behind) ∷ lexemes_from (line_behind line b) (more_at b behind) behind

-- the lexemes of a script
unfoldable pub lexemes : List ℕ → List (ℕ × Lexeme)
lexemes script = lexemes_from 1 0 script

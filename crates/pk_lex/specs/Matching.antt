use Rattle.std.specs.Prelude.{ℕ, ◌==◌, ◌&&◌, Option, Some, None, if◌then◌else◌}
use Rattle.pk_lex.specs.declared.token.Symbol.{Symbol}
use Rattle.pk_lex.specs.declared.token.Symbol.TheVariants.{LeftParen, RightParen, Comma, Semicolon, Star, Equal, Less, Greater, AtMost, AtLeast, UnequalAngle, UnequalBang, Minus}

-- How the code finds `symbol_at`: by the first byte, and by the first two. No public clause cites this.

-- the symbol of this byte
abbrev pub single_symbol : ℕ → Option Symbol
single_symbol b =
    if b == 40 then Some LeftParen
    else (if b == 41 then Some RightParen
    else (if b == 44 then Some Comma
    else (if b == 59 then Some Semicolon
    else (if b == 42 then Some Star
    else (if b == 61 then Some Equal
    else (if b == 60 then Some Less
    else (if b == 62 then Some Greater
    else (if b == 45 then Some Minus
    else None))))))))

-- the symbol of these two bytes
abbrev pub double_symbol : ℕ → ℕ → Option Symbol
double_symbol b c =
    if b == 60 && c == 61 then Some AtMost
    else (if b == 62 && c == 61 then Some AtLeast
    else (if b == 60 && c == 62 then Some UnequalAngle
    else (if b == 33 && c == 61 then Some UnequalBang
    else None)))

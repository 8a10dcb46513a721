use Rattle.std.specs.Prelude.{ℕ, ◌+◌, ◌-◌, ◌*◌, ◌^◌, List, [], ◌∷◌, codes, pos, neg_ℤ, nat_le, Option, Some, None, fold, if◌then◌else◌}
use Rattle.pk_lex.specs.declared.token.Token.{Token}
use Rattle.pk_lex.specs.declared.token.Token.TheVariants.{Word, Number, Text, Symbol as Sign}
use Rattle.pk_lex.specs.declared.token.Symbol.TheVariants.{Minus}
use Rattle.pk_syntax.specs.declared.literal.Literal.{Literal}
use Rattle.pk_syntax.specs.declared.literal.Literal.TheVariants as literals
use Rattle.pk_parse.specs.Tokens.{Found, ◌>>=◌, after_word, after_symbol, digits_at}

-- the number with one more digit
abbrev pub with_digit : ℕ → ℕ → ℕ
with_digit n digit = 10 * n + (digit - 48)

-- the number that digits spell
unfoldable pub number_of : List ℕ → ℕ
number_of digits = fold with_digit 0 digits

-- a number that is at most so large
abbrev pub number_within : ℕ → ℕ → Option ℕ
number_within most n = if nat_le n most then Some n else None

-- a number without a sign
abbrev pub plain_number : ℕ → Literal
plain_number n = if nat_le n (2 ^ 63 - 1) then literals.Number (pos n) else literals.Wide

-- a number behind a minus sign
abbrev pub negative_number : ℕ → Literal
negative_number n = if nat_le n (2 ^ 63) then literals.Number (neg_ℤ (pos n)) else literals.Wide

-- NULL
unfoldable pub null_at : List Token → Found Literal
null_at tokens = do
  behind ← after_word (codes "null") tokens
  Some (literals.Null, behind)

-- - number
unfoldable pub negative_at : List Token → Found Literal
negative_at tokens = do
  behind ← after_symbol Minus tokens
  digits ← digits_at behind
  Some (negative_number (number_of digits.0), digits.1)

-- NULL, number, - number, or text
unfoldable pub literal_at : List Token → Found Literal
literal_at [] = None
literal_at (Word w ∷ behind) = null_at (Word w ∷ behind)
literal_at (Number digits ∷ behind) = Some (plain_number (number_of digits), behind)
literal_at (Text bytes ∷ behind) = Some (literals.Text bytes, behind)
literal_at (Sign s ∷ behind) = negative_at (Sign s ∷ behind)

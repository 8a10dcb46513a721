use Rattle.std.specs.Prelude.{◌≡◌, ℕ, false, List, [], ◌∷◌, codes}
use Rattle.pk_lex.specs.declared.token.Token.{Token}
use Rattle.pk_lex.specs.declared.token.Token.TheVariants.{Word, Number, Text, Symbol as Sign}
use Rattle.pk_lex.specs.declared.token.Symbol.TheVariants.{Minus}
use Rattle.pk_syntax.specs.declared.literal.Literal.{Literal}
use Rattle.pk_syntax.specs.declared.literal.Literal.TheVariants as literals
use Rattle.pk_syntax.specs.Words.{is_reserved}
use Rattle.pk_parse.specs.Literals.{number_of, plain_number, negative_number}

-- the word isn't reserved
abbrev pub IsFree : List ℕ → Type 0
IsFree word = is_reserved word ≡ false

-- NULL, number, - number, or text
pub data IsLiteral : List Token → Literal → Type 0 where
  null : IsLiteral (Word (codes "null") ∷ []) literals.Null
  plain : (digits : List ℕ) → IsLiteral (Number digits ∷ []) (plain_number (number_of digits))
  negative : (digits : List ℕ) → IsLiteral (Sign Minus ∷ Number digits ∷ []) (negative_number (number_of digits))
  quoted : (bytes : List ℕ) → IsLiteral (Text bytes ∷ []) (literals.Text bytes)

use Rattle.std.specs.Prelude.{ℕ, List, ◌∷◌, Option, Some, None, option_and_then, if◌then◌else◌}
use Rattle.std.specs.Str.{bytes_eq}
use Rattle.pk_lex.specs.declared.token.Token.{Token}
use Rattle.pk_lex.specs.declared.token.Token.TheVariants.{Word, Number, Symbol as Sign}
use Rattle.pk_lex.specs.declared.token.Symbol.{Symbol}
use Rattle.pk_lex.specs.Symbols.{spelling}
use Rattle.pk_syntax.specs.Words.{is_reserved}

-- what stands at the front of the tokens, and the tokens behind it
abbrev pub Found : Type 0 → Type 0
Found A = Option (A × List Token)

infixl 10 ◌>>=◌
abbrev pub ◌>>=◌ : {A B : Type 0} → Option A → (A → Option B) → Option B
o >>= f = option_and_then f o

-- what is read behind a word or symbol that was found, or else the other
abbrev pub behind_or : {A : Type 0} → Option (List Token) → (List Token → A) → A → A
behind_or (Some behind) found other = found behind
behind_or None found other = other

-- the tokens behind this word
unfoldable pub after_word : List ℕ → List Token → Option (List Token)
after_word word (Word w ∷ behind) = if bytes_eq w word then Some behind else None
after_word word _ = None

-- the tokens behind this symbol
unfoldable pub after_symbol : Symbol → List Token → Option (List Token)
after_symbol symbol (Sign s ∷ behind) = if bytes_eq (spelling s) (spelling symbol) then Some behind else None
after_symbol symbol _ = None

-- a word that isn't reserved
unfoldable pub name_at : List Token → Found (List ℕ)
name_at (Word w ∷ behind) = if is_reserved w then None else Some (w, behind)
name_at _ = None

-- the digits of a number
unfoldable pub digits_at : List Token → Found (List ℕ)
digits_at (Number digits ∷ behind) = Some (digits, behind)
digits_at _ = None

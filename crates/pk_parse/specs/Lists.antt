use Rattle.std.specs.Prelude.{ℕ, ◌+◌, ◌/◌, min, Bool, true, false, List, [], ◌∷◌, length, Some}
use Rattle.std.specs.List.{prefix_len}
use Rattle.std.proofs.Common.{suc, zero}
use Rattle.pk_lex.specs.declared.token.Token.{Token}
use Rattle.pk_lex.specs.declared.token.Token.TheVariants.{Symbol as Sign}
use Rattle.pk_lex.specs.declared.token.Symbol.TheVariants.{Comma, LeftParen, RightParen}
use Rattle.pk_parse.specs.Tokens.{Found, ◌>>=◌, behind_or, after_symbol, name_at}

-- any token but a `)`
abbrev pub stays_inside : Token → Bool
stays_inside (Sign RightParen) = false
stays_inside _ = true

-- How many parts a list takes room for at first: as many as there are before the first `)` where each is one
-- token, but at most 32. No public clause cites this.
abbrev pub room_for_parts : List Token → ℕ
room_for_parts tokens = 1 + min (prefix_len stays_inside tokens / 2) 31

-- an item, and the items behind it
abbrev pub item_then : {A : Type 0} → Found A → (List Token → Found (List A)) → Found (List A)
item_then found more = do
  x ← found
  xs ← more x.1
  Some (x.0 ∷ xs.0, xs.1)

-- items, each behind a comma, at most so many
abbrev pub more_at : {A : Type 0} → (List Token → Found A) → ℕ → List Token → Found (List A)
more_at item zero tokens = Some ([], tokens)
more_at item (suc most) tokens = behind_or (after_symbol Comma tokens) (λ behind. item_then (item behind) (more_at item most)) (Some ([], tokens))

-- at least one item, with commas between them
unfoldable pub list_at : {A : Type 0} → (List Token → Found A) → List Token → Found (List A)
list_at item tokens = item_then (item tokens) (λ behind. more_at item (length behind) behind)

-- the same in parentheses
unfoldable pub parens_at : {A : Type 0} → (List Token → Found A) → List Token → Found (List A)
parens_at item tokens = do
  inside ← after_symbol LeftParen tokens
  found ← list_at item inside
  behind ← after_symbol RightParen found.1
  Some (found.0, behind)

-- ( ) or ( name , .. )
unfoldable pub names_at : List Token → Found (List (List ℕ))
names_at tokens = do
  inside ← after_symbol LeftParen tokens
  behind_or (after_symbol RightParen inside) (λ behind. Some ([], behind)) (parens_at name_at tokens)

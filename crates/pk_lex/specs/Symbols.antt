use Rattle.std.specs.Prelude.{ℕ, List, [], ◌∷◌, Option, codes, find, nat_eq}
use Rattle.std.specs.List.{starts_with}
use Rattle.pk_lex.specs.declared.token.Symbol.{Symbol}
use Rattle.pk_lex.specs.declared.token.Symbol.TheVariants.{LeftParen, RightParen, Comma, Semicolon, Star, Equal, Less, Greater, AtMost, AtLeast, UnequalAngle, UnequalBang, Minus}

-- the bytes of a symbol
abbrev pub spelling : Symbol → List ℕ
spelling LeftParen = codes "("
spelling RightParen = codes ")"
spelling Comma = codes ","
spelling Semicolon = codes ";"
spelling Star = codes "*"
spelling Equal = codes "="
spelling Less = codes "<"
spelling Greater = codes ">"
spelling AtMost = codes "<="
spelling AtLeast = codes ">="
spelling UnequalAngle = codes "<>"
spelling UnequalBang = codes "!="
spelling Minus = codes "-"

-- all symbols, the longer ones first
abbrev pub symbols : List Symbol
symbols =
    AtMost ∷ AtLeast ∷ UnequalAngle ∷ UnequalBang ∷ LeftParen ∷ RightParen ∷ Comma ∷ Semicolon ∷ Star ∷ Equal ∷ Less ∷ Greater ∷ Minus ∷ []

-- the longest symbol at the front of the bytes
unfoldable pub symbol_at : List ℕ → Option Symbol
symbol_at bytes = find (λ s. starts_with nat_eq bytes (spelling s)) symbols

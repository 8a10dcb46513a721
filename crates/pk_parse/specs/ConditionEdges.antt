use Rattle.std.specs.Prelude.{◌≡◌, ℕ, true, false, List, [], ◌∷◌, ◌++◌, codes, pos, Some, None}
use Rattle.pk_lex.specs.declared.token.Token.{Token}
use Rattle.pk_lex.specs.declared.token.Token.TheVariants.{Word, Number, Symbol as Sign}
use Rattle.pk_lex.specs.declared.token.Symbol.TheVariants.{LeftParen, RightParen, AtMost}
use Rattle.pk_syntax.specs.declared.literal.Literal.TheVariants as literals
use Rattle.pk_syntax.specs.declared.condition.Op.TheVariants as ops
use Rattle.pk_syntax.specs.declared.condition.Operand.TheVariants.{Known, Column}
use Rattle.pk_syntax.specs.declared.condition.Test.TheVariants.{Compare, IsNull, Not, All, Any}
use Rattle.pk_parse.specs.Conditions.{unit_at, condition_at}

-- Conditions at their edges, computed.

abbrev pub a : List ℕ
a = codes "a"

abbrev pub b : List ℕ
b = codes "b"

abbrev pub c : List ℕ
c = codes "c"

-- name IS NULL
abbrev pub null : List ℕ → List Token
null name = Word name ∷ Word (codes "is") ∷ Word (codes "null") ∷ []

abbrev pub and : List Token
and = Word (codes "and") ∷ []

abbrev pub or : List Token
or = Word (codes "or") ∷ []

pub record ConditionsAtTheirEdges : Type 0 where
  pub nothing : condition_at [] ≡ None
  pub column_alone : condition_at (Word a ∷ []) ≡ None
  pub compared : condition_at (Word a ∷ Sign AtMost ∷ Number (codes "1") ∷ []) ≡ Some (Compare a ops.AtMost (Known (literals.Number (pos 1))), [])
  pub two_columns : condition_at (Word a ∷ Sign AtMost ∷ Word b ∷ []) ≡ Some (Compare a ops.AtMost (Column b), [])
  pub not_null : condition_at (Word a ∷ Word (codes "is") ∷ Word (codes "not") ∷ Word (codes "null") ∷ []) ≡ Some (IsNull a true, [])
  pub or_then_and : condition_at (null a ++ or ++ null b ++ and ++ null c) ≡ Some (Any (IsNull a false ∷ All (IsNull b false ∷ IsNull c false ∷ []) ∷ []), [])
  pub and_then_or : condition_at (null a ++ and ++ null b ++ or ++ null c) ≡ Some (Any (All (IsNull a false ∷ IsNull b false ∷ []) ∷ IsNull c false ∷ []), [])
  pub in_parens : condition_at (Sign LeftParen ∷ null a ++ Sign RightParen ∷ []) ≡ Some (IsNull a false, [])
  pub denied_first : condition_at (Word (codes "not") ∷ null a ++ and ++ null b) ≡ Some (All (Not (IsNull a false) ∷ IsNull b false ∷ []), [])
  pub followed : condition_at (null a ++ Word (codes "order") ∷ []) ≡ Some (IsNull a false, Word (codes "order") ∷ [])
  pub on_no_level : unit_at 0 (null a) ≡ None
  pub on_one_level : unit_at 1 (null a) ≡ Some (IsNull a false, [])
  pub denied_on_one : unit_at 1 (Word (codes "not") ∷ null a) ≡ None
  pub denied_on_two : unit_at 2 (Word (codes "not") ∷ null a) ≡ Some (Not (IsNull a false), [])

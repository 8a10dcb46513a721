use Rattle.std.specs.Prelude.{◌≡◌, ℕ, zero, suc, true, false, List, [], ◌∷◌, ◌++◌, codes, Some, None}
use Rattle.pk_lex.specs.declared.token.Token.{Token}
use Rattle.pk_lex.specs.declared.token.Token.TheVariants.{Word, Symbol as Sign}
use Rattle.pk_lex.specs.declared.token.Symbol.{Symbol}
use Rattle.pk_lex.specs.declared.token.Symbol.TheVariants.{LeftParen, RightParen}
use Rattle.pk_syntax.specs.declared.literal.Literal.{Literal}
use Rattle.pk_syntax.specs.declared.condition.Op.{Op}
use Rattle.pk_syntax.specs.declared.condition.Operand.{Operand}
use Rattle.pk_syntax.specs.declared.condition.Operand.TheVariants.{Known, Column}
use Rattle.pk_syntax.specs.declared.condition.Test.{Test}
use Rattle.pk_syntax.specs.declared.condition.Test.TheVariants.{Compare, IsNull, Not}
use Rattle.pk_parse.specs.declared.conditions.Joint.{Joint}
use Rattle.pk_parse.specs.declared.conditions.Joint.TheVariants.{And, Or}
use Rattle.pk_parse.specs.Tokens.{after_word}
use Rattle.pk_parse.specs.Conditions.{op_of, word_of, grouped, condition_at}
use Rattle.pk_parse.specs.LiteralGrammar.{IsFree, IsLiteral}

-- Which tokens spell a condition, all of the tokens. Each rule is a case.

-- a literal, or the name of a column
pub data IsOperand : List Token → Operand → Type 0 where
  known : (tokens : List Token) (literal : Literal) → IsLiteral tokens literal → IsOperand tokens (Known literal)
  column : (name : List ℕ) → IsFree name → IsOperand (Word name ∷ []) (Column name)

-- the tokens are the members in order, with the word between each two; there is at least one
abbrev pub JoinedBy : List ℕ → (List Token → Test → Type 0) → List Token → List Test → Type 0
JoinedBy word Is tokens [] = ⊥
JoinedBy word Is tokens (t ∷ []) = Is tokens t
JoinedBy word Is tokens (t ∷ u ∷ us) = (front : List Token) × (behind : List Token) × (tokens ≡ front ++ Word word ∷ behind) × Is front t × JoinedBy word Is behind (u ∷ us)

-- members joined by AND or by OR: one is itself, several are All or Any of them
pub data IsJoined (joint : Joint) (Is : List Token → Test → Type 0) : List Token → Test → Type 0 where
  joins : (tokens : List Token) (members : List Test) → JoinedBy (word_of joint) Is tokens members → IsJoined joint Is tokens (grouped joint members)

-- conj { OR conj }, where a conj is unit { AND unit }
abbrev pub IsCondOf : (List Token → Test → Type 0) → List Token → Test → Type 0
IsCondOf IsUnit = IsJoined Or (IsJoined And IsUnit)

-- a unit, where IsDeeper says what the units one level deeper are: name op operand, name IS [ NOT ] NULL, NOT unit, or ( cond )
pub data IsUnitOver (IsDeeper : List Token → Test → Type 0) : List Token → Test → Type 0 where
  compares : (name : List ℕ) (symbol : Symbol) (op : Op) (tokens : List Token) (operand : Operand) → IsFree name → op_of symbol ≡ Some op → IsOperand tokens operand
      → IsUnitOver IsDeeper (Word name ∷ Sign symbol ∷ tokens) (Compare name op operand)
  is_null : (name : List ℕ) → IsFree name → IsUnitOver IsDeeper (Word name ∷ Word (codes "is") ∷ Word (codes "null") ∷ []) (IsNull name false)
  is_not_null : (name : List ℕ) → IsFree name → IsUnitOver IsDeeper (Word name ∷ Word (codes "is") ∷ Word (codes "not") ∷ Word (codes "null") ∷ []) (IsNull name true)
  denies : (tokens : List Token) (t : Test) → IsDeeper tokens t → IsUnitOver IsDeeper (Word (codes "not") ∷ tokens) (Not t)
  encloses : (tokens : List Token) (t : Test) → IsCondOf IsDeeper tokens t → IsUnitOver IsDeeper (Sign LeftParen ∷ tokens ++ Sign RightParen ∷ []) t

-- a unit, where so many levels are left for it and those within it
unfoldable pub IsUnit : ℕ → List Token → Test → Type 0
IsUnit zero tokens t = ⊥
IsUnit (suc levels) tokens t = IsUnitOver (IsUnit levels) tokens t

-- a condition: its units stand at most 64 deep, so on 65 levels
unfoldable pub IsCondition : List Token → Test → Type 0
IsCondition tokens t = IsCondOf (IsUnit 65) tokens t

-- what may follow a condition: neither AND nor OR
abbrev pub EndsCondition : List Token → Type 0
EndsCondition rest = (after_word (codes "and") rest ≡ None) × (after_word (codes "or") rest ≡ None)

-- what is read is in the grammar, and what is in the grammar is read, whatever follows that may
pub record ReadsConditions : Type 0 where
  pub found : (tokens : List Token) (t : Test) (rest : List Token) → condition_at tokens ≡ Some (t, rest) → (front : List Token) × (tokens ≡ front ++ rest) × IsCondition front t
  pub again : (front : List Token) (t : Test) (rest : List Token) → EndsCondition rest → IsCondition front t → condition_at (front ++ rest) ≡ Some (t, rest)

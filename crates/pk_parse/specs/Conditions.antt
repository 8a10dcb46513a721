use Rattle.std.specs.Prelude.{ℕ, zero, suc, Bool, true, false, List, [], ◌∷◌, length, codes, Option, Some, None}
use Rattle.pk_lex.specs.declared.token.Token.{Token}
use Rattle.pk_lex.specs.declared.token.Token.TheVariants.{Symbol as Sign}
use Rattle.pk_lex.specs.declared.token.Symbol.{Symbol}
use Rattle.pk_lex.specs.declared.token.Symbol.TheVariants as symbols
use Rattle.pk_syntax.specs.declared.literal.Literal.{Literal}
use Rattle.pk_syntax.specs.declared.condition.Op.{Op}
use Rattle.pk_syntax.specs.declared.condition.Op.TheVariants as ops
use Rattle.pk_syntax.specs.declared.condition.Operand.{Operand}
use Rattle.pk_syntax.specs.declared.condition.Operand.TheVariants.{Known, Column}
use Rattle.pk_syntax.specs.declared.condition.Test.{Test}
use Rattle.pk_syntax.specs.declared.condition.Test.TheVariants.{Compare, IsNull, Not, All, Any}
use Rattle.pk_parse.specs.declared.conditions.Joint.{Joint}
use Rattle.pk_parse.specs.declared.conditions.Joint.TheVariants.{And, Or}
use Rattle.pk_parse.specs.Tokens.{Found, ◌>>=◌, behind_or, after_word, after_symbol, name_at}
use Rattle.pk_parse.specs.Literals.{literal_at}
use Rattle.pk_parse.specs.Lists.{item_then}

-- ---- what is asked of one column

-- the comparison that a symbol stands for
abbrev pub op_of : Symbol → Option Op
op_of symbols.Equal = Some ops.Equal
op_of symbols.UnequalAngle = Some ops.Unequal
op_of symbols.UnequalBang = Some ops.Unequal
op_of symbols.Less = Some ops.Less
op_of symbols.AtMost = Some ops.AtMost
op_of symbols.Greater = Some ops.Greater
op_of symbols.AtLeast = Some ops.AtLeast
op_of _ = None

-- = <> != < <= > >=
unfoldable pub op_at : List Token → Found Op
op_at (Sign symbol ∷ behind) = do
  op ← op_of symbol
  Some (op, behind)
op_at _ = None

abbrev pub known_or : Found Literal → Found Operand → Found Operand
known_or (Some (literal, behind)) other = Some (Known literal, behind)
known_or None other = other

abbrev pub column_operand : Found (List ℕ) → Found Operand
column_operand found = do
  name ← found
  Some (Column name.0, name.1)

-- a literal, or the name of a column
unfoldable pub operand_at : List Token → Found Operand
operand_at tokens = known_or (literal_at tokens) (column_operand (name_at tokens))

-- op operand, behind a column
unfoldable pub comparison_at : List ℕ → List Token → Found Test
comparison_at column tokens = do
  op ← op_at tokens
  operand ← operand_at op.1
  Some (Compare column op.0 operand.0, operand.1)

abbrev pub null_behind : List ℕ → Bool → List Token → Found Test
null_behind column negated tokens = do
  behind ← after_word (codes "null") tokens
  Some (IsNull column negated, behind)

-- [ NOT ] NULL, behind a column and IS
unfoldable pub null_test_at : List ℕ → List Token → Found Test
null_test_at column tokens = behind_or (after_word (codes "not") tokens) (null_behind column true) (null_behind column false tokens)

-- name op operand, or name IS [ NOT ] NULL
unfoldable pub column_test_at : List Token → Found Test
column_test_at tokens = do
  column ← name_at tokens
  behind_or (after_word (codes "is") column.1) (null_test_at column.0) (comparison_at column.0 column.1)

-- ---- members joined by AND or OR

abbrev pub word_of : Joint → List ℕ
word_of And = codes "and"
word_of Or = codes "or"

-- several members as one condition
abbrev pub group : Joint → List Test → Test
group And members = All members
group Or members = Any members

-- one member is itself
abbrev pub grouped : Joint → List Test → Test
grouped joint (t ∷ []) = t
grouped joint members = group joint members

-- what is found, with a first member before it
abbrev pub with_first : Test → Found (List Test) → Found (List Test)
with_first first found = do
  members ← found
  Some (first ∷ members.0, members.1)

-- members, each behind the word, at most so many
abbrev pub members_at : List ℕ → (List Token → Found Test) → ℕ → List Token → Found (List Test)
members_at word member zero tokens = Some ([], tokens)
members_at word member (suc most) tokens = behind_or (after_word word tokens) (λ behind. item_then (member behind) (members_at word member most)) (Some ([], tokens))

-- members with the joint's word between each two
unfoldable pub joined_at : Joint → (List Token → Found Test) → List Token → Found Test
joined_at joint member tokens = do
  members ← item_then (member tokens) (λ behind. members_at (word_of joint) member (length behind) behind)
  Some (grouped joint members.0, members.1)

-- what the joint joins: AND joins units, OR what AND has joined
abbrev pub member_at : Joint → (List Token → Found Test) → List Token → Found Test
member_at And unit = unit
member_at Or unit = joined_at And unit

-- ---- units, over those one level deeper

-- the unit behind NOT
abbrev pub negation_at : (List Token → Found Test) → List Token → Found Test
negation_at deeper tokens = do
  test ← deeper tokens
  Some (Not test.0, test.1)

-- cond ), behind an opening parenthesis
abbrev pub inside_at : (List Token → Found Test) → List Token → Found Test
inside_at deeper tokens = do
  test ← joined_at Or (member_at Or deeper) tokens
  behind ← after_symbol symbols.RightParen test.1
  Some (test.0, behind)

-- NOT unit, ( cond ), or what is asked of one column
abbrev pub unit_over : (List Token → Found Test) → List Token → Found Test
unit_over deeper tokens =
    behind_or (after_word (codes "not") tokens) (negation_at deeper)
    (behind_or (after_symbol symbols.LeftParen tokens) (inside_at deeper)
    (column_test_at tokens))

-- a unit, where so many levels are left for it and those within it
unfoldable pub unit_at : ℕ → List Token → Found Test
unit_at zero tokens = None
unit_at (suc levels) tokens = unit_over (unit_at levels) tokens

-- a condition: its units stand at most 64 deep, so on 65 levels
unfoldable pub condition_at : List Token → Found Test
condition_at tokens = joined_at Or (member_at Or (unit_at 65)) tokens

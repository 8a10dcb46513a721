use Rattle.std.specs.Prelude.{List, [], ◌∷◌, codes, Option, Some, None}
use Rattle.pk_lex.specs.declared.token.Token.{Token}
use Rattle.pk_lex.specs.declared.token.Token.TheVariants.{Word}
use Rattle.pk_syntax.specs.declared.condition.Test.{Test}
use Rattle.pk_parse.specs.Tokens.{Found, ◌>>=◌, behind_or, after_word}
use Rattle.pk_parse.specs.Conditions.{condition_at}
use Rattle.pk_parse.specs.ConditionGrammar.{IsCondition}

-- cond, behind WHERE
abbrev pub tested_at : List Token → Found (Option Test)
tested_at tokens = do
  test ← condition_at tokens
  Some (Some test.0, test.1)

-- [ WHERE cond ]
unfoldable pub where_at : List Token → Found (Option Test)
where_at tokens = behind_or (after_word (codes "where") tokens) tested_at (Some (None, tokens))

-- [ WHERE cond ]
pub data IsWhere : List Token → Option Test → Type 0 where
  all_rows : IsWhere [] None
  tested : (tokens : List Token) (t : Test) → IsCondition tokens t → IsWhere (Word (codes "where") ∷ tokens) (Some t)

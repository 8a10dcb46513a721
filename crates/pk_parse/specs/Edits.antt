use Rattle.std.specs.Prelude.{List, codes, ℕ, Option, Some, None}
use Rattle.pk_lex.specs.declared.token.Token.{Token}
use Rattle.pk_lex.specs.declared.token.Symbol.TheVariants.{LeftParen, Equal}
use Rattle.pk_syntax.specs.declared.statement.Statement.{Statement}
use Rattle.pk_syntax.specs.declared.statement.Statement.TheVariants as statements
use Rattle.pk_syntax.specs.declared.edit.SetPart.{SetPart}
use Rattle.pk_syntax.specs.declared.literal.Literal.{Literal}
use Rattle.pk_parse.specs.Tokens.{Found, ◌>>=◌, behind_or, after_word, after_symbol, name_at}
use Rattle.pk_parse.specs.Literals.{literal_at}
use Rattle.pk_parse.specs.Lists.{list_at, parens_at}
use Rattle.pk_parse.specs.Where.{where_at}

-- ( literal , .. )
unfoldable pub tuple_at : List Token → Found (List Literal)
tuple_at tokens = parens_at literal_at tokens

-- ( name , .. )
unfoldable pub listed_at : List Token → Found (Option (List (List ℕ)))
listed_at tokens = do
  names ← parens_at name_at tokens
  Some (Some names.0, names.1)

-- [ ( name , .. ) ]
unfoldable pub list_or_none_at : List Token → Found (Option (List (List ℕ)))
list_or_none_at tokens = behind_or (after_symbol LeftParen tokens) (λ inside. listed_at tokens) (Some (None, tokens))

-- INTO name [ ( name , .. ) ] VALUES tuple , ..
unfoldable pub insert_at : List Token → Found Statement
insert_at tokens = do
  behind ← after_word (codes "into") tokens
  table ← name_at behind
  columns ← list_or_none_at table.1
  behind ← after_word (codes "values") columns.1
  rows ← list_at tuple_at behind
  Some (statements.Insert (record { table = table.0; columns = columns.0; rows = rows.0 }), rows.1)

-- name = literal
unfoldable pub set_at : List Token → Found SetPart
set_at tokens = do
  column ← name_at tokens
  behind ← after_symbol Equal column.1
  value ← literal_at behind
  Some (record { column = column.0; value = value.0 }, value.1)

-- name SET name = literal , .. [ WHERE cond ]
unfoldable pub update_at : List Token → Found Statement
update_at tokens = do
  table ← name_at tokens
  behind ← after_word (codes "set") table.1
  sets ← list_at set_at behind
  cond ← where_at sets.1
  Some (statements.Update (record { table = table.0; sets = sets.0; cond = cond.0 }), cond.1)

-- FROM name [ WHERE cond ]
unfoldable pub delete_at : List Token → Found Statement
delete_at tokens = do
  behind ← after_word (codes "from") tokens
  table ← name_at behind
  cond ← where_at table.1
  Some (statements.Delete (record { table = table.0; cond = cond.0 }), cond.1)

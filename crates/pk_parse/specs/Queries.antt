use Rattle.std.specs.Prelude.{Bool, true, false, List, [], codes, Some}
use Rattle.pk_lex.specs.declared.token.Token.{Token}
use Rattle.pk_lex.specs.declared.token.Symbol.TheVariants.{LeftParen, RightParen, Star}
use Rattle.pk_syntax.specs.declared.statement.Statement.{Statement}
use Rattle.pk_syntax.specs.declared.statement.Statement.TheVariants as statements
use Rattle.pk_syntax.specs.declared.query.What.{What}
use Rattle.pk_syntax.specs.declared.query.What.TheVariants.{All, Columns, Count}
use Rattle.pk_syntax.specs.declared.query.OrderPart.{OrderPart}
use Rattle.pk_parse.specs.Tokens.{Found, ◌>>=◌, behind_or, after_word, after_symbol, name_at}
use Rattle.pk_parse.specs.Lists.{list_at}
use Rattle.pk_parse.specs.Where.{where_at}

-- ( * )
unfoldable pub count_at : List Token → Found What
count_at tokens = do
  behind ← after_symbol LeftParen tokens
  behind ← after_symbol Star behind
  behind ← after_symbol RightParen behind
  Some (Count, behind)

-- name , ..
unfoldable pub columns_at : List Token → Found What
columns_at tokens = do
  names ← list_at name_at tokens
  Some (Columns names.0, names.1)

-- *, COUNT ( * ), or name , ..
unfoldable pub what_at : List Token → Found What
what_at tokens =
    behind_or (after_symbol Star tokens) (λ behind. Some (All, behind))
    (behind_or (after_word (codes "count") tokens) count_at
    (columns_at tokens))

-- [ ASC or DESC ]: whether it is DESC
unfoldable pub direction_at : List Token → Bool × List Token
direction_at tokens =
    behind_or (after_word (codes "asc") tokens) (λ behind. (false, behind))
    (behind_or (after_word (codes "desc") tokens) (λ behind. (true, behind))
    (false, tokens))

-- name [ ASC or DESC ]
unfoldable pub order_part_at : List Token → Found OrderPart
order_part_at tokens = do
  column ← name_at tokens
  Some (record { column = column.0; down = (direction_at column.1).0 }, (direction_at column.1).1)

-- BY name [ ASC or DESC ] , ..
unfoldable pub order_by_at : List Token → Found (List OrderPart)
order_by_at tokens = do
  behind ← after_word (codes "by") tokens
  list_at order_part_at behind

-- [ ORDER BY name [ ASC or DESC ] , .. ]
unfoldable pub order_at : List Token → Found (List OrderPart)
order_at tokens = behind_or (after_word (codes "order") tokens) order_by_at (Some ([], tokens))

-- the same behind what is asked for: a count has no order
abbrev pub order_of_at : What → List Token → Found (List OrderPart)
order_of_at All tokens = order_at tokens
order_of_at (Columns names) tokens = order_at tokens
order_of_at Count tokens = Some ([], tokens)

-- what FROM name [ WHERE cond ] [ ORDER BY .. ]
unfoldable pub select_at : List Token → Found Statement
select_at tokens = do
  what ← what_at tokens
  behind ← after_word (codes "from") what.1
  table ← name_at behind
  cond ← where_at table.1
  order ← order_of_at what.0 cond.1
  Some (statements.Select (record { table = table.0; what = what.0; cond = cond.0; order = order.0 }), order.1)

use Rattle.std.specs.Prelude.{◌≡◌, ℕ, ◌≤◌, Bool, true, false, List, [], ◌∷◌, ◌++◌, codes, Option, Some, None}
use Rattle.pk_values.specs.declared.key.Sort.TheVariants.{Certain, Possible}
use Rattle.pk_lex.specs.declared.token.Token.{Token}
use Rattle.pk_lex.specs.declared.token.Token.TheVariants.{Word, Number, Symbol as Sign}
use Rattle.pk_lex.specs.declared.token.Symbol.TheVariants.{LeftParen, RightParen, Comma, Star, Equal}
use Rattle.pk_syntax.specs.declared.statement.Statement.{Statement}
use Rattle.pk_syntax.specs.declared.statement.Statement.TheVariants.{Create, Drop, Insert, Update, Delete, Select, Begin, Commit, Rollback, Session, Show, Implies, Cover, Examples, Discover, Checkpoint}
use Rattle.pk_syntax.specs.declared.declaration.TableDecl.{TableDecl}
use Rattle.pk_syntax.specs.declared.declaration.KeyText.{KeyText}
use Rattle.pk_syntax.specs.declared.condition.Test.{Test}
use Rattle.pk_syntax.specs.declared.edit.SetPart.{SetPart}
use Rattle.pk_syntax.specs.declared.query.What.{What}
use Rattle.pk_syntax.specs.declared.query.What.TheVariants.{All, Columns, Count}
use Rattle.pk_syntax.specs.declared.query.OrderPart.{OrderPart}
use Rattle.pk_syntax.specs.declared.literal.Literal.{Literal}
use Rattle.pk_parse.specs.declared.table_part.TablePart.{TablePart}
use Rattle.pk_parse.specs.declared.table_part.TablePart.TheVariants.{Column, Key}
use Rattle.pk_parse.specs.declared.table_part.ColumnForm.{ColumnForm}
use Rattle.pk_parse.specs.declared.table_part.KeyPart.{KeyPart}
use Rattle.pk_parse.specs.declared.table_part.Mark.{Mark}
use Rattle.pk_parse.specs.declared.table_part.Mark.TheVariants.{NotNull, Unique, Primary}
use Rattle.pk_parse.specs.Literals.{number_of}
use Rattle.pk_parse.specs.Create.{integer_form, text_form, declared}
use Rattle.pk_parse.specs.LiteralGrammar.{IsFree, IsLiteral}
use Rattle.pk_parse.specs.Where.{IsWhere}
use Rattle.pk_parse.specs.Statements.{read}

-- The grammar: which tokens spell what, all of the tokens. Each rule is a case.

-- ---- names and lists

-- one word that isn't reserved
pub data IsName : List Token → List ℕ → Type 0 where
  named : (name : List ℕ) → IsFree name → IsName (Word name ∷ []) name

-- the tokens are the items in order, with a comma between each two; there is at least one
abbrev pub Joined : {A : Type 0} → (List Token → A → Type 0) → List Token → List A → Type 0
Joined Is tokens [] = ⊥
Joined Is tokens (x ∷ []) = Is tokens x
Joined Is tokens (x ∷ y ∷ ys) = (front : List Token) × (behind : List Token) × (tokens ≡ front ++ Sign Comma ∷ behind) × Is front x × Joined Is behind (y ∷ ys)

-- the same in parentheses
abbrev pub InParens : {A : Type 0} → (List Token → A → Type 0) → List Token → List A → Type 0
InParens Is tokens xs = (inside : List Token) × (tokens ≡ Sign LeftParen ∷ inside ++ Sign RightParen ∷ []) × Joined Is inside xs

-- ( ) or ( name , .. )
pub data IsNames : List Token → List (List ℕ) → Type 0 where
  no_names : IsNames (Sign LeftParen ∷ Sign RightParen ∷ []) []
  some_names : (tokens : List Token) (names : List (List ℕ)) → InParens IsName tokens names → IsNames tokens names

-- ( literal , .. )
abbrev pub IsTuple : List Token → List Literal → Type 0
IsTuple tokens row = InParens IsLiteral tokens row

-- ---- CREATE TABLE

-- INTEGER, INT, BIGINT, TEXT, or VARCHAR ( number ) with a number from 1 to 255
pub data IsForm : List Token → ColumnForm → Type 0 where
  integer : IsForm (Word (codes "integer") ∷ []) integer_form
  int : IsForm (Word (codes "int") ∷ []) integer_form
  bigint : IsForm (Word (codes "bigint") ∷ []) integer_form
  text : IsForm (Word (codes "text") ∷ []) (text_form 255)
  varchar : (digits : List ℕ) → 1 ≤ number_of digits → number_of digits ≤ 255
      → IsForm (Word (codes "varchar") ∷ Sign LeftParen ∷ Number digits ∷ Sign RightParen ∷ []) (text_form (number_of digits))

-- NOT NULL, UNIQUE, or PRIMARY KEY
pub data IsMark : List Token → Mark → Type 0 where
  not_null : IsMark (Word (codes "not") ∷ Word (codes "null") ∷ []) NotNull
  unique : IsMark (Word (codes "unique") ∷ []) Unique
  primary : IsMark (Word (codes "primary") ∷ Word (codes "key") ∷ []) Primary

-- marks, one behind the other
pub data AreMarks : List Token → List Mark → Type 0 where
  no_mark : AreMarks [] []
  one_more : (front behind : List Token) (mark : Mark) (marks : List Mark) → IsMark front mark → AreMarks behind marks → AreMarks (front ++ behind) (mark ∷ marks)

-- CERTAIN KEY names, or POSSIBLE KEY names
pub data IsKey : List Token → KeyText → Type 0 where
  certain : (names : List Token) (columns : List (List ℕ)) → IsNames names columns
      → IsKey (Word (codes "certain") ∷ Word (codes "key") ∷ names) (record { sort = Certain; columns = columns })
  possible : (names : List Token) (columns : List (List ℕ)) → IsNames names columns
      → IsKey (Word (codes "possible") ∷ Word (codes "key") ∷ names) (record { sort = Possible; columns = columns })

-- POSSIBLE KEY names, CERTAIN KEY names, UNIQUE names, or PRIMARY KEY names
pub data IsKeyPart : List Token → KeyPart → Type 0 where
  plain_key : (tokens : List Token) (key : KeyText) → IsKey tokens key → IsKeyPart tokens (record { key = key; primary = false })
  unique_key : (names : List Token) (columns : List (List ℕ)) → IsNames names columns
      → IsKeyPart (Word (codes "unique") ∷ names) (record { key = record { sort = Possible; columns = columns }; primary = false })
  primary_key : (names : List Token) (columns : List (List ℕ)) → IsNames names columns
      → IsKeyPart (Word (codes "primary") ∷ Word (codes "key") ∷ names) (record { key = record { sort = Certain; columns = columns }; primary = true })

-- name type { NOT NULL or UNIQUE or PRIMARY KEY }, or a key
pub data IsPart : List Token → TablePart → Type 0 where
  column : (name : List ℕ) (types more : List Token) (form : ColumnForm) (marks : List Mark) → IsFree name → IsForm types form → AreMarks more marks
      → IsPart (Word name ∷ types ++ more) (Column (record { name = name; form = form; marks = marks }))
  key : (tokens : List Token) (k : KeyPart) → IsKeyPart tokens k → IsPart tokens (Key k)

-- ---- the parts of the other statements

-- [ ( name , .. ) ]
pub data IsColumnList : List Token → Option (List (List ℕ)) → Type 0 where
  all_columns : IsColumnList [] None
  these_columns : (tokens : List Token) (names : List (List ℕ)) → InParens IsName tokens names → IsColumnList tokens (Some names)

-- name = literal
pub data IsSet : List Token → SetPart → Type 0 where
  sets : (column : List ℕ) (tokens : List Token) (value : Literal) → IsFree column → IsLiteral tokens value
      → IsSet (Word column ∷ Sign Equal ∷ tokens) (record { column = column; value = value })

-- *, COUNT ( * ), or name , ..
pub data IsWhat : List Token → What → Type 0 where
  star : IsWhat (Sign Star ∷ []) All
  count : IsWhat (Word (codes "count") ∷ Sign LeftParen ∷ Sign Star ∷ Sign RightParen ∷ []) Count
  columns : (tokens : List Token) (names : List (List ℕ)) → Joined IsName tokens names → IsWhat tokens (Columns names)

-- [ ASC or DESC ]
pub data IsDirection : List Token → Bool → Type 0 where
  unsaid : IsDirection [] false
  up : IsDirection (Word (codes "asc") ∷ []) false
  down : IsDirection (Word (codes "desc") ∷ []) true

-- name [ ASC or DESC ]
pub data IsOrderPart : List Token → OrderPart → Type 0 where
  orders : (column : List ℕ) (tokens : List Token) (down : Bool) → IsFree column → IsDirection tokens down
      → IsOrderPart (Word column ∷ tokens) (record { column = column; down = down })

-- [ ORDER BY name [ ASC or DESC ] , .. ], but a count has no order
pub data IsOrder : What → List Token → List OrderPart → Type 0 where
  no_order : (what : What) → IsOrder what [] []
  all_order : (tokens : List Token) (parts : List OrderPart) → Joined IsOrderPart tokens parts
      → IsOrder All (Word (codes "order") ∷ Word (codes "by") ∷ tokens) parts
  columns_order : (names : List (List ℕ)) (tokens : List Token) (parts : List OrderPart) → Joined IsOrderPart tokens parts
      → IsOrder (Columns names) (Word (codes "order") ∷ Word (codes "by") ∷ tokens) parts

-- [ OVER names ]
pub data IsOver : List Token → Option (List (List ℕ)) → Type 0 where
  over_all : IsOver [] None
  over_names : (tokens : List Token) (names : List (List ℕ)) → IsNames tokens names → IsOver (Word (codes "over") ∷ tokens) (Some names)

-- ---- statements

-- the tokens spell the statement
pub data IsStatement : List Token → Statement → Type 0 where
  create : (table : List ℕ) (tokens : List Token) (parts : List TablePart) (decl : TableDecl) → IsFree table → InParens IsPart tokens parts → declared table parts ≡ Some decl
      → IsStatement (Word (codes "create") ∷ Word (codes "table") ∷ Word table ∷ tokens) (Create decl)
  drop : (table : List ℕ) → IsFree table → IsStatement (Word (codes "drop") ∷ Word (codes "table") ∷ Word table ∷ []) (Drop table)
  insert : (table : List ℕ) (listed tuples : List Token) (columns : Option (List (List ℕ))) (rows : List (List Literal)) → IsFree table → IsColumnList listed columns → Joined IsTuple tuples rows
      → IsStatement (Word (codes "insert") ∷ Word (codes "into") ∷ Word table ∷ listed ++ Word (codes "values") ∷ tuples) (Insert (record { table = table; columns = columns; rows = rows }))
  update : (table : List ℕ) (parts behind : List Token) (sets : List SetPart) (cond : Option Test) → IsFree table → Joined IsSet parts sets → IsWhere behind cond
      → IsStatement (Word (codes "update") ∷ Word table ∷ Word (codes "set") ∷ parts ++ behind) (Update (record { table = table; sets = sets; cond = cond }))
  delete : (table : List ℕ) (behind : List Token) (cond : Option Test) → IsFree table → IsWhere behind cond
      → IsStatement (Word (codes "delete") ∷ Word (codes "from") ∷ Word table ∷ behind) (Delete (record { table = table; cond = cond }))
  select : (table : List ℕ) (asked tests ordered : List Token) (what : What) (cond : Option Test) (order : List OrderPart) → IsFree table → IsWhat asked what → IsWhere tests cond → IsOrder what ordered order
      → IsStatement (Word (codes "select") ∷ asked ++ (Word (codes "from") ∷ Word table ∷ tests ++ ordered)) (Select (record { table = table; what = what; cond = cond; order = order }))
  begin : IsStatement (Word (codes "begin") ∷ []) Begin
  commit : IsStatement (Word (codes "commit") ∷ []) Commit
  rollback : IsStatement (Word (codes "rollback") ∷ []) Rollback
  session : (name : List ℕ) → IsFree name → IsStatement (Word (codes "session") ∷ Word name ∷ []) (Session name)
  show : (table : List ℕ) → IsFree table → IsStatement (Word (codes "show") ∷ Word (codes "create") ∷ Word (codes "table") ∷ Word table ∷ []) (Show table)
  implies : (table : List ℕ) (tokens : List Token) (key : KeyText) → IsFree table → IsKey tokens key → IsStatement (Word (codes "implies") ∷ Word table ∷ tokens) (Implies table key)
  cover : (table : List ℕ) → IsFree table → IsStatement (Word (codes "cover") ∷ Word (codes "of") ∷ Word table ∷ []) (Cover table)
  examples : (table : List ℕ) → IsFree table → IsStatement (Word (codes "examples") ∷ Word (codes "of") ∷ Word table ∷ []) (Examples table)
  discover : (table : List ℕ) (tokens : List Token) (over : Option (List (List ℕ))) → IsFree table → IsOver tokens over
      → IsStatement (Word (codes "discover") ∷ Word (codes "keys") ∷ Word (codes "from") ∷ Word table ∷ tokens) (Discover table over)
  checkpoint : IsStatement (Word (codes "checkpoint") ∷ []) Checkpoint

-- what is read is in the grammar, and what is in the grammar is read
pub record ReadsTheGrammar : Type 0 where
  pub found : (tokens : List Token) (s : Statement) → read tokens ≡ Some s → IsStatement tokens s
  pub only : (tokens : List Token) (s : Statement) → IsStatement tokens s → read tokens ≡ Some s

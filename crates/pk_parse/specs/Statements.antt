use Rattle.std.specs.Prelude.{ℕ, List, [], ◌∷◌, codes, Option, Some, None, if◌then◌else◌}
use Rattle.std.specs.Str.{bytes_eq}
use Rattle.pk_lex.specs.declared.token.Token.{Token}
use Rattle.pk_lex.specs.declared.token.Token.TheVariants.{Word}
use Rattle.pk_syntax.specs.declared.statement.Statement.{Statement}
use Rattle.pk_syntax.specs.declared.statement.Statement.TheVariants as statements
use Rattle.pk_parse.specs.Tokens.{Found, ◌>>=◌, behind_or, after_word, name_at}
use Rattle.pk_parse.specs.Lists.{names_at}
use Rattle.pk_parse.specs.Create.{key_at, create_at}
use Rattle.pk_parse.specs.Edits.{insert_at, update_at, delete_at}
use Rattle.pk_parse.specs.Queries.{select_at}

-- Each of these reads what stands behind the statement's first word.

-- TABLE name
unfoldable pub drop_at : List Token → Found Statement
drop_at tokens = do
  behind ← after_word (codes "table") tokens
  table ← name_at behind
  Some (statements.Drop table.0, table.1)

-- name
unfoldable pub session_at : List Token → Found Statement
session_at tokens = do
  name ← name_at tokens
  Some (statements.Session name.0, name.1)

-- CREATE TABLE name
unfoldable pub show_at : List Token → Found Statement
show_at tokens = do
  behind ← after_word (codes "create") tokens
  behind ← after_word (codes "table") behind
  table ← name_at behind
  Some (statements.Show table.0, table.1)

-- name CERTAIN KEY names, or name POSSIBLE KEY names
unfoldable pub implies_at : List Token → Found Statement
implies_at tokens = do
  table ← name_at tokens
  key ← key_at table.1
  Some (statements.Implies table.0 key.0, key.1)

-- OF name
unfoldable pub cover_at : List Token → Found Statement
cover_at tokens = do
  behind ← after_word (codes "of") tokens
  table ← name_at behind
  Some (statements.Cover table.0, table.1)

-- OF name
unfoldable pub examples_at : List Token → Found Statement
examples_at tokens = do
  behind ← after_word (codes "of") tokens
  table ← name_at behind
  Some (statements.Examples table.0, table.1)

unfoldable pub over_names_at : List Token → Found (Option (List (List ℕ)))
over_names_at tokens = do
  names ← names_at tokens
  Some (Some names.0, names.1)

-- [ OVER names ]
unfoldable pub over_at : List Token → Found (Option (List (List ℕ)))
over_at tokens = behind_or (after_word (codes "over") tokens) over_names_at (Some (None, tokens))

-- KEYS FROM name [ OVER names ]
unfoldable pub discover_at : List Token → Found Statement
discover_at tokens = do
  behind ← after_word (codes "keys") tokens
  behind ← after_word (codes "from") behind
  table ← name_at behind
  over ← over_at table.1
  Some (statements.Discover table.0 over.0, over.1)

-- a statement of one word
abbrev pub alone : Statement → List Token → Found Statement
alone s tokens = Some (s, tokens)

-- a first word, and what reads the tokens behind it
abbrev pub Reader : Type 0
Reader = List ℕ × (List Token → Found Statement)

-- all statements, by their first words
abbrev pub readers : List Reader
readers =
    (codes "create", create_at) ∷
    (codes "insert", insert_at) ∷
    (codes "select", select_at) ∷
    (codes "update", update_at) ∷
    (codes "delete", delete_at) ∷
    (codes "drop", drop_at) ∷
    (codes "begin", alone statements.Begin) ∷
    (codes "commit", alone statements.Commit) ∷
    (codes "rollback", alone statements.Rollback) ∷
    (codes "session", session_at) ∷
    (codes "show", show_at) ∷
    (codes "implies", implies_at) ∷
    (codes "cover", cover_at) ∷
    (codes "examples", examples_at) ∷
    (codes "discover", discover_at) ∷
    (codes "checkpoint", alone statements.Checkpoint) ∷
    []

-- what the reader of this first word finds
abbrev pub found_by : List Reader → List ℕ → List Token → Found Statement
found_by [] word behind = None
found_by (r ∷ rs) word behind = if bytes_eq word r.0 then r.1 behind else found_by rs word behind

-- the statement at the front of the tokens
unfoldable pub statement_at : List Token → Found Statement
statement_at (Word word ∷ behind) = found_by readers word behind
statement_at _ = None

-- what is found, where no token stands behind it
abbrev pub whole : {A : Type 0} → Found A → Option A
whole (Some (x, [])) = Some x
whole (Some (x, t ∷ ts)) = None
whole None = None

-- the statement that all of the tokens spell
unfoldable pub read : List Token → Option Statement
read tokens = whole (statement_at tokens)

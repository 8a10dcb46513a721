use Rattle.std.specs.Prelude.{ℕ, ◌+◌, List, [], ◌∷◌, ◌++◌, codes}
use Rattle.pk_values.specs.declared.changes.Changes.{Changes}
use Rattle.pk_schema.specs.Shapes.{Shape}
use Rattle.pk_exec.specs.Entries.{Entry}
use Rattle.pk_engine.specs.Base.{Base, Table, with_table, without_table, change_table}

-- what a commit did: it made a table of this shape, dropped one, or changed rows of tables, each named
pub data Commit : Type 0 where
  Made : List ℕ → Shape → Commit
  Dropped : List ℕ → Commit
  Changed : List (List ℕ × Changes) → Commit

-- an open transaction: its session, how many commits there were when it began, and what it sees of each table
pub record Transaction : Type 0 where
  pub session : List ℕ
  pub since : ℕ
  pub tables : List (List ℕ × List Entry)

-- a state: the base at the start, the commits since, the open transactions and the session of the next statement
pub record State : Type 0 where
  pub start : Base
  pub commits : List Commit
  pub running : List Transaction
  pub session : List ℕ

-- a new table has no row, and its next id is 1
abbrev pub made_table : List ℕ → Shape → Table
made_table name shape = record { name = name; shape = shape; next = 1; rows = [] }

abbrev pub change_all : List (List ℕ × Changes) → List Table → List Table
change_all [] tables = tables
change_all (c ∷ cs) tables = change_all cs (change_table c.0 c.1 tables)

-- the tables after a commit
abbrev pub tables_after : Commit → List Table → List Table
tables_after (Made name shape) tables = with_table (made_table name shape) tables
tables_after (Dropped name) tables = without_table name tables
tables_after (Changed changes) tables = change_all changes tables

-- the base after a commit
abbrev pub committed : Base → Commit → Base
committed b c = record { commit = b.commit + 1; tables = tables_after c b.tables }

-- the base after commits, one behind the other
unfoldable pub after : Base → List Commit → Base
after b [] = b
after b (c ∷ cs) = after (committed b c) cs

-- the base as it is now
unfoldable pub current : State → Base
current st = after st.start st.commits

-- the state at a start: no commit since, no transaction, and the session main
abbrev pub started : Base → State
started b = record { start = b; commits = []; running = []; session = codes "main" }

-- the state with one commit more
abbrev pub with_commit : State → Commit → State
with_commit st c = record st { commits = st.commits ++ c ∷ [] }

use Rattle.std.specs.Prelude.{ℕ, ◌≤◌, ◌<◌, Bool, not, ◌&&◌, List, length, nat_le, All, IsTrue}
use Rattle.pk_values.specs.declared.placed.Placed.{Placed}
use Rattle.pk_values.specs.Name.{is_name}
use Rattle.pk_values.specs.Values.{IsStorable}
use Rattle.pk_syntax.specs.declared.statement.Statement.{Statement}
use Rattle.pk_syntax.specs.Given.{IsGiven}
use Rattle.pk_syntax.specs.Words.{is_reserved}
use Rattle.pk_schema.specs.Shapes.{IsShape}
use Rattle.pk_schema.specs.Admits.{Admits}
use Rattle.pk_exec.specs.Rows.{AscendFrom}
use Rattle.pk_engine.specs.Base.{Table, Base, IsInNameOrder, row_count}
use Rattle.pk_engine.specs.Keys.{KeepsKeys}
use Rattle.pk_engine.specs.Limits.{most_tables, most_rows, most_ids}
use Rattle.pk_engine.specs.State.{State, current}
use Rattle.pk_engine.specs.Answer.{answer}

-- what a table may be called, whatever made it: a name of at most 255 bytes that is no word of the grammar. CREATE TABLE refuses more than 30.
abbrev pub is_table_name : List ℕ → Bool
is_table_name name = is_name name && not (is_reserved name) && nat_le (length name) 255

-- A table that may have its name, whose ids ascend from 1 on and stay below its next one, whose rows its schema admits, and whose keys hold over all completions.
-- Each value is one of the code's: a number of 64 bits, or words.
pub record IsValidTable (t : Table) : Type 0 where
  pub named : IsTrue (is_table_name t.name)
  pub shape : IsShape t.shape
  pub ids : AscendFrom 1 t.rows
  pub below : All (λ (p : Placed). p.id < t.next) t.rows
  pub first : 1 ≤ t.next
  pub rows : All (λ p. Admits t.shape p.row) t.rows
  pub values : All (λ (p : Placed). All IsStorable p.row) t.rows
  pub next : t.next ≤ most_ids
  pub keys : KeepsKeys t

-- a base of valid tables in the order of their names, within the limits
pub record IsValid (b : Base) : Type 0 where
  pub names : IsInNameOrder b.tables
  pub tables : All IsValidTable b.tables
  pub few_tables : length b.tables ≤ most_tables
  pub few_rows : row_count b ≤ most_rows
  pub few_commits : b.commit ≤ most_ids

-- every answer to what parsing gives leaves a valid base
abbrev pub AnswersKeepValid : Type 0
AnswersKeepValid = (st : State) (s : Statement) → IsGiven s → IsValid (current st) → IsValid (current (answer st s).next)

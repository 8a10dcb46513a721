use Rattle.std.specs.Prelude.{Bool, true, false}
use Rattle.pk_syntax.specs.declared.statement.Statement.{Statement}
use Rattle.pk_syntax.specs.declared.statement.Statement.TheVariants.{Create, Drop, Insert as InsertInto, Update, Delete, Select as SelectFrom, Show, Implies, Cover}
use Rattle.pk_report.specs.declared.reply.Reply.TheVariants.{CommittedNothing}
use Rattle.pk_bind.specs.Select.{select_refusals}
use Rattle.pk_engine.specs.State.{State}
use Rattle.pk_engine.specs.Refusing.{Step, decided, about}
use Rattle.pk_engine.specs.Create.{create_refusals, created}
use Rattle.pk_engine.specs.Drop.{drop_refusals, dropped}
use Rattle.pk_engine.specs.Edits.{insert_refusals, inserted, update_refusals, updated_rows, delete_refusals, deleted_rows}
use Rattle.pk_engine.specs.Select.{selected_rows}
use Rattle.pk_engine.specs.Show.{shown_table}
use Rattle.pk_engine.specs.Reasoning.{implies_refusals, implied_told, cover_told}

-- a statement that isn't answered yet leaves the state, and nobody asks for its reply
abbrev pub unanswered : State → Step
unanswered st = record { reply = CommittedNothing; next = st }

-- the answer to a statement: the first refusal that stands, or else what it does
unfoldable pub answer : State → Statement → Step
answer st (Create d) = decided st (create_refusals st d) (created st d)
answer st (Drop name) = about st name (λ t. decided st (drop_refusals st t) (dropped st t))
answer st (InsertInto i) = about st i.table (λ t. decided st (insert_refusals st t i) (inserted st t i))
answer st (Update u) = about st u.table (λ t. decided st (update_refusals st t u) (updated_rows st t u))
answer st (Delete d) = about st d.table (λ t. decided st (delete_refusals st t d) (deleted_rows st t d))
answer st (SelectFrom s) = about st s.table (λ t. decided st (select_refusals t.shape s) (selected_rows st t s))
answer st (Show name) = about st name (λ t. shown_table st t)
answer st (Implies name k) = about st name (λ t. decided st (implies_refusals t k) (implied_told st t k))
answer st (Cover name) = about st name (λ t. cover_told st t)
answer st _ = unanswered st

-- the statements that the engine answers
unfoldable pub is_answered : Statement → Bool
is_answered (Create d) = true
is_answered (Drop name) = true
is_answered (InsertInto i) = true
is_answered (Update u) = true
is_answered (Delete d) = true
is_answered (SelectFrom s) = true
is_answered (Show name) = true
is_answered (Implies name k) = true
is_answered (Cover name) = true
is_answered _ = false

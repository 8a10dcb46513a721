use Rattle.std.specs.Prelude.{ℕ, List, [], ◌∷◌, ◌++◌, Option, Some, None}
use Rattle.pk_values.specs.declared.refusal.Refusal.{Refusal}
use Rattle.pk_values.specs.declared.refusal.Refusal.TheVariants.{TableExists}
use Rattle.pk_syntax.specs.declared.declaration.TableDecl.{TableDecl}
use Rattle.pk_schema.specs.Shapes.{shape_of}
use Rattle.pk_schema.specs.Making.{schema_refusals}
use Rattle.pk_report.specs.declared.reply.Reply.TheVariants.{Created}
use Rattle.pk_engine.specs.Base.{Table}
use Rattle.pk_engine.specs.State.{State, with_commit, Made}
use Rattle.pk_engine.specs.Refusing.{Step, table_of}
use Rattle.pk_engine.specs.Limits.{tables_full, commits_full}

-- the base has a table of this name
abbrev pub if_found : List ℕ → Option Table → Option Refusal
if_found name (Some t) = Some (TableExists name)
if_found name None = None

unfoldable pub table_exists : State → List ℕ → Option Refusal
table_exists st name = if_found name (table_of st name)

-- what CREATE TABLE is refused for, in this order
abbrev pub create_refusals : State → TableDecl → List (Option Refusal)
create_refusals st d = table_exists st d.table ∷ schema_refusals d ++ (tables_full st ∷ commits_full st ∷ [])

-- CREATE TABLE that isn't refused: one commit, which makes the table
abbrev pub created : State → TableDecl → Step
created st d = record { reply = Created d.table; next = with_commit st (Made d.table (shape_of d)) }

use Rattle.std.specs.Prelude.{List, [], ◌∷◌, length, Option}
use Rattle.pk_values.specs.declared.refusal.Refusal.{Refusal}
use Rattle.pk_report.specs.declared.reply.Reply.TheVariants.{Dropped as DroppedTable}
use Rattle.pk_exec.specs.Refusals.{many_changes}
use Rattle.pk_engine.specs.Base.{Table}
use Rattle.pk_engine.specs.State.{State, with_commit, Dropped}
use Rattle.pk_engine.specs.Refusing.{Step}
use Rattle.pk_engine.specs.Limits.{commits_full}

-- dropping the table would change more rows than a transaction may: each row of it is one
abbrev pub table_large : Table → Option Refusal
table_large t = many_changes (length t.rows)

-- what DROP TABLE is refused for, in this order
abbrev pub drop_refusals : State → Table → List (Option Refusal)
drop_refusals st t = table_large t ∷ commits_full st ∷ []

-- DROP TABLE that isn't refused: one commit, which drops the table
abbrev pub dropped : State → Table → Step
dropped st t = record { reply = DroppedTable t.name; next = with_commit st (Dropped t.name) }

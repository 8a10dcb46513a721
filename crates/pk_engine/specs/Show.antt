use Rattle.pk_syntax.specs.Printing.{table_text}
use Rattle.pk_schema.specs.Shapes.{decl_of}
use Rattle.pk_report.specs.declared.reply.Reply.TheVariants.{Shown}
use Rattle.pk_engine.specs.Base.{Table}
use Rattle.pk_engine.specs.State.{State}
use Rattle.pk_engine.specs.Refusing.{Step}

-- SHOW CREATE TABLE: the canonical text of the table, and no commit
abbrev pub shown_table : State → Table → Step
shown_table st t = record { reply = Shown (table_text (decl_of t.name t.shape)); next = st }
